use Prim.Native.Nat.{◌≤◌}
use lib.ListN.{length}
use Rattle.after.proofs.JoinCols.{Walks}
use Rattle.after.proofs.start_col.Given as goal

abbrev pub invariant-loop : goal.invariant-loop
invariant-loop l = (l.left ≤ l.at) × (l.col ≤ l.at) × (l.at ≤ length l.text) × Walks l.text l.down l.spaced l.initial.at l.initial.left l.at l.left l.col l.counter
