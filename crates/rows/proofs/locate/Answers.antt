use lib.ListN.{length}
use Prim.Native.Nat.{◌≤◌, ◌-◌}
use Rattle.text.proofs.Order.{col_min}
use Rattle.text.proofs.Walks.{span-within, placed}
use native.Mathlib.Omega.{arith}
use Rattle.rows.proofs.locate.Goals.{After-struct_known-1}
use Rattle.rows.proofs.locate.Goals as goal

found : (c : After-struct_known-1) → (c.find_row-found.result.start.0 ≤ c.find_row-found.result.end.0) × (c.find_row-found.result.end.0 ≤ length c.args.text.now)
found c = let a = c.args in span-within a.text.now a.pos.row.0 _ c.find_row-found.ensures

pub overflow_sub-found : goal.overflow_sub-found
overflow_sub-found c = (found (goal.at.overflow_sub-found c).After-struct_known-1).0

pub overflow_cast-found : goal.overflow_cast-found
overflow_cast-found c = omega (arith, (found (goal.at.overflow_cast-found c).After-struct_known-1).0, (found (goal.at.overflow_cast-found c).After-struct_known-1).1, c.requires)

pub returns : goal.returns
returns c = let f = c.find_row-found in
    placed c.args.text.now c.args.pos f.result _ f.ensures (col_min c.args.pos.col (record { 0 = f.result.end.0 - f.result.start.0 }) c.min-col.ensures)
