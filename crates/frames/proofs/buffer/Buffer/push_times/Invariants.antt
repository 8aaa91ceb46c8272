use Rattle.std.proofs.Common.{◌-◌, ◌≤◌, ◌<◌, ◌+◌}
use Rattle.frames.proofs.buffer.Buffer.push_times.Given as goal

abbrev pub invariant-loop-done : goal.invariant-loop-done
invariant-loop-done l = (l.done ≤ l.size) × (0 < l.size → 0 < l.done) × (l.start + l.size ≤ 131_072)

abbrev pub decreases-loop-done : goal.decreases-loop-done
decreases-loop-done l = l.size - l.done
