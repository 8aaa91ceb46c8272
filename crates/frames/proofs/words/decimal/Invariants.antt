use Rattle.std.proofs.Common.{◌≤◌}
use Rattle.frames.proofs.words.decimal.Given as goal

abbrev pub invariant-loop-digit : goal.invariant-loop-digit
invariant-loop-digit l = l.value ≤ 100_000
