use mathlib.Core.Path.{◌≡◌}
use mathlib.Core.List.{[]}
use Prim.Native.Nat.{◌-◌, ◌≤◌}
use lib.ListN.{length, take, drop}
use Rattle.loading.specs.States.{state_of}
use Rattle.step.specs.Calls.{Ready}
use Rattle.feed.specs.Feeds.{fed_by, whole}
use Rattle.script.specs.Courses.{Going}
use Rattle.script.proofs.feeding.feed_all.Given as goal

abbrev pub invariant-loop-at : goal.invariant-loop-at
invariant-loop-at l =
    (l.at ≤ length l.input) × (length l.line ≡ length l.initial.line) × (length l.text ≡ length l.initial.text) × (length l.marks ≡ length l.initial.marks) × (length l.room ≡ length l.initial.room) × (length l.out ≡ length l.initial.out) × (l.printed ≤ length l.initial.out) × (l.pending ≤ 36_865) × Ready l.current l.text l.marks × Going l.keep (whole (fed_by (state_of l.initial.current l.initial.text l.initial.marks) [] l.input)) l.initial.out l.printed (whole (fed_by (state_of l.current l.text l.marks) (take l.pending l.line) (drop l.at l.input))) l.out

abbrev pub decreases-loop-at : goal.decreases-loop-at
decreases-loop-at l =
    length l.input - l.at
