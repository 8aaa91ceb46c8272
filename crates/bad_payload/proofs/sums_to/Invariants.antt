use mathlib.Core.Path.{◌≡◌}
use Prim.Native.Nat.{◌+◌}
use lib.ListN.{drop}
use Rattle.edit.specs.Refusals.{sum}
use Rattle.bad_payload.proofs.sums_to.Given as goal

abbrev pub invariant-loop-item : goal.invariant-loop-item
invariant-loop-item l = sum l.list + l.left ≡ l.total + sum (drop l.item-index l.list)
