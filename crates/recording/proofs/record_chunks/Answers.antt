use mathlib.Core.Path.{◌∙◌}
use Rattle.steps.specs.Steps.{given_back}
use Rattle.steps.specs.Numbers.{steps_of}
use Rattle.recording.proofs.Inverses.{given_long}
use Rattle.steps.proofs.Sums.{steps_count}
use Rattle.recording.proofs.Slots.{zeros_up}
use Rattle.recording.proofs.record_chunks.Goals as goal

pub returns : goal.returns
returns c = λ x. let a = c.args in zeros_up (given_back (steps_of a.n a.steps.now x)) a.out.now _ _ a.n a.count (given_long (steps_of a.n a.steps.now x) ∙ steps_count a.n a.steps.now x) (c.record_lengths.ensures x) c.zeros.ensures
