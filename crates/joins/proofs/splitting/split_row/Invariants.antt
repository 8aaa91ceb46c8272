use Rattle.joins.proofs.SplitStores.{Putting}
use lib.ListN.{length}
use Prim.Native.Nat.{◌≤◌}
use mathlib.Core.Path.{◌≡◌}
use Rattle.joins.proofs.splitting.split_row.Given as goal

abbrev pub invariant-loop-k : goal.invariant-loop-k
invariant-loop-k l = (l.k ≤ length l.cols) × (l.start.0 ≤ l.end) × (l.end ≤ l.n) × (l.n ≤ length l.text) × (length l.text ≡ length l.initial.text) × Putting l.initial.text l.used l.cols l.flags l.start.0 l.initial.end l.text l.n l.end l.k
