use mathlib.Core.Bool.{true}
use mathlib.Core.Path.{◌≡◌}
use Rattle.decoding.proofs.Runs.{Ascii}
use Rattle.decoding.proofs.is_block.Given as goal

abbrev pub invariant-loop-x : goal.invariant-loop-x
invariant-loop-x l = l.all ≡ true → Ascii l.bytes l.start l.x-index
