use mathlib.Core.Path.{◌≡◌}
use Prim.Native.Nat.{◌≤◌}
use lib.ListN.{length}
use Rattle.joins.proofs.JoinStores.{Storing}
use Rattle.joins.proofs.joining.join_rows.Given as goal

abbrev pub invariant-loop-k : goal.invariant-loop-k
invariant-loop-k l = (l.n ≤ l.used) × (length l.text ≡ length l.initial.text) × (length l.cols ≡ length l.initial.cols) × (length l.flags ≡ length l.initial.flags) × Storing l.initial.text l.initial.cols l.initial.flags l.used l.count l.spaced l.start l.initial.left l.text l.cols l.flags l.n l.left l.k
