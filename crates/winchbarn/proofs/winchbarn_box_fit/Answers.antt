use mathlib.Core.Path.{ap, ◌∙◌}
use Rattle.plain.specs.Told.{told_fit}
use Rattle.winchbarn.proofs.winchbarn_box_fit.Goals as goal

pub returns : goal.returns
returns c = c.told_fit.ensures ∙ ap told_fit c.box_fit.ensures
