-- The theorems that specs/Theorems.antt states.
use mathlib.Core.Path.{refl}
use Rattle.promise.proofs.Settled.{settled}
use Rattle.step.specs.Calls.{Left}
use Rattle.step.specs.Theorems.{Exit, StepSettled}

abbrev exit_back : Left → Exit
exit_back l = record { progress = record { script = l.script; printed = l.printed }; text = l.text; marks = l.marks; out = l.out }

pub step-settled : StepSettled
step-settled = settled exit_back (λ x. refl)
