use mathlib.Core.Path.{◌≡◌}
use Prim.Native.Nat.{ℕ}
use Rattle.cells.proofs.Tables.{between_entries}
use native.Mathlib.Omega.{arith}
use Rattle.cells.proofs.is_count.Goals as goal

pub returns-then-count-eq0 : goal.returns-then-count-eq0
returns-then-count-eq0 c e = let z : ◌≡◌ {A = ℕ} 0 1 = cc in absurd (omega arith)

pub returns-then-table-count : goal.returns-then-table-count
returns-then-table-count c e = let z : ◌≡◌ {A = ℕ} 0 1 = cc in absurd (omega arith)

pub returns : goal.returns
returns c e = let a = c.args in
    between_entries a.value a.count a.table.now c.requires c.if-count-eq0.false (omega arith) e
