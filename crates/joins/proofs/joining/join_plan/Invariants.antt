use Prim.Native.Nat.{◌-◌, ◌≤◌}
use lib.ListN.{length}
use Rattle.joins.proofs.JoinPlans.{Planning}
use Rattle.joins.proofs.joining.join_plan.Given as goal

abbrev pub invariant-loop-at : goal.invariant-loop-at
invariant-loop-at l = (l.made ≤ l.at) × (l.at ≤ length l.text) × (l.used ≤ length l.text) × Planning l.text l.count l.spaced l.initial.at l.initial.left l.used l.at l.left l.made

abbrev pub decreases-loop-at : goal.decreases-loop-at
decreases-loop-at l = length l.text - l.at
