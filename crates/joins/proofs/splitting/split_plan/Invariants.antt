use Rattle.joins.proofs.SplitPlans.{Counting}
use lib.ListN.{length}
use Prim.Native.Nat.{◌+◌, ◌-◌, ◌≤◌}
use Rattle.joins.proofs.splitting.split_plan.Given as goal

abbrev pub invariant-loop-k : goal.invariant-loop-k
invariant-loop-k l = (l.k ≤ length l.cols) × (l.start.0 ≤ l.end) × (l.end ≤ length l.text) × (l.used ≤ length l.text + (length l.cols - l.k)) × Counting l.text l.cols l.flags l.start.0 l.initial.end l.within l.used l.end l.k
