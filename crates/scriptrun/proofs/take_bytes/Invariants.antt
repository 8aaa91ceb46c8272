use Rattle.std.proofs.Common.{length, take, ◌-◌, ◌≤◌, ◌≡◌}
use Rattle.loading.specs.States.{state_of}
use Rattle.step.specs.Calls.{Ready}
use Rattle.feed.specs.Feeds.{fed_by}
use Rattle.scriptrun.specs.Runs.{Stands}
use Rattle.scriptrun.proofs.take_bytes.Given as goal

abbrev pub invariant-loop-at : goal.invariant-loop-at
invariant-loop-at l =
    let i = l.initial in
    (l.at ≤ length l.bytes) × (length l.out ≡ length i.out) × (l.pending ≤ 36_865) × Ready l.current l.text l.marks
    × Stands (state_of l.current l.text l.marks) (take l.pending l.line) (fed_by (state_of i.current i.text i.marks) (take i.pending i.line) (take l.at l.bytes))

abbrev pub decreases-loop-at : goal.decreases-loop-at
decreases-loop-at l = length l.bytes - l.at
