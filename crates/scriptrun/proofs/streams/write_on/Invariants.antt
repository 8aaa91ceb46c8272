use Rattle.std.proofs.Common.{length, ◌≤◌}
use Rattle.scriptrun.proofs.streams.write_on.Given as goal

abbrev pub invariant-loop : goal.invariant-loop
invariant-loop l = l.done ≤ length l.bytes
