use mathlib.Core.Path.{◌≡◌}
use Prim.Native.Nat.{◌≤◌, ◌-◌}
use lib.ListN.{length, take}
use Rattle.step.specs.Calls.{Ready}
use Rattle.feed.specs.Calls.{left, feed_leaves}
use Rattle.feed.proofs.Ends.{course}
use Rattle.feed.proofs.feed.Given as goal

abbrev pub invariant-loop-taken : goal.invariant-loop-taken
invariant-loop-taken l = (l.taken ≤ length l.piece) × (length l.line ≡ length l.initial.line) × (length l.text ≡ length l.initial.text) × (length l.marks ≡ length l.initial.marks) × (length l.out ≡ length l.initial.out) × (l.printed ≤ length l.initial.out) × (l.count ≤ 36_865) × Ready l.current l.text l.marks × (left (course l.current l.count l.taken l.printed) l.line l.text l.marks l.out ≡ feed_leaves l.initial.current (take l.pending l.initial.line) (take l.taken l.piece) l.initial.text l.initial.marks l.initial.out)

abbrev pub decreases-loop-taken : goal.decreases-loop-taken
decreases-loop-taken l = length l.piece - l.taken
