use Rattle.std.proofs.Common.{◌≤◌, length}
use Rattle.lines.proofs.numbers.read_numbers.Given as goal

abbrev pub invariant-loop-word : goal.invariant-loop-word
invariant-loop-word l = l.count ≤ length l.out
