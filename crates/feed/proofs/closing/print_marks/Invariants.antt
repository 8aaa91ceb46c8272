use mathlib.Core.Path.{◌≡◌}
use Prim.Native.Nat.{◌*◌, ◌≤◌}
use lib.ListN.{length}
use Rattle.feed.proofs.Closings.{Shown}
use Rattle.feed.proofs.closing.print_marks.Given as goal

abbrev pub invariant-loop-mark : goal.invariant-loop-mark
invariant-loop-mark l = (length l.out ≡ length l.initial.out) × (l.sum ≤ l.mark-index * 35) × Shown l.marks l.mark-index l.sum l.out l.initial.out
