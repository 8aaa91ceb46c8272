-- The proofs of specs/Theorems.antt.
use Rattle.steps.specs.Theorems.{StepsText, StepsCut, StepsPassed, RowsWoven, StepsNatural}
use Rattle.steps.proofs.Texts.{steps_text}
use Rattle.steps.proofs.Cuts.{steps_cut}
use Rattle.steps.proofs.Passes.{steps_passed}
use Rattle.steps.proofs.Breaks.{rows-woven}
use Rattle.steps.proofs.Natural.{woven-map, cut_map}

pub text-woven : StepsText
text-woven A lf sp made = steps_text lf sp made

pub cut_back : StepsCut
cut_back A lf sp made = steps_cut lf sp made

pub passes_within : StepsPassed
passes_within A lf sp made = steps_passed lf sp made

pub rows-change : RowsWoven
rows-change A lf = rows-woven lf

pub natural : StepsNatural
natural A B f v ss t = (woven-map f v ss t, cut_map f ss t)
