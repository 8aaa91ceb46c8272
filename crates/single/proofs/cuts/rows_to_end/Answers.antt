use Rattle.single.proofs.Cutting.{cut_to-end}
use Prim.Native.Nat.{◌-◌}
use Rattle.text.proofs.Walks.{span-within}
use native.Mathlib.Omega.{arith}
use Rattle.single.proofs.cuts.rows_to_end.Goals as goal

pub overflow_sub-len : goal.overflow_sub-len
overflow_sub-len c = let a = c.args in (span-within a.text.now (a.lo.0 - 1) _ c.find_row-above.ensures).0

pub overflow_cast-back : goal.overflow_cast-back
overflow_cast-back c = let w = span-within c.args.text.now (c.args.lo.0 - 1) _ c.find_row-above.ensures in omega (arith, w.0, w.1, c.requires.0)

pub returns : goal.returns
returns c = let a = c.args in cut_to-end a.text.now a.lo.0 c.requires.1 c.requires.2 _ c.find_row-above.ensures
