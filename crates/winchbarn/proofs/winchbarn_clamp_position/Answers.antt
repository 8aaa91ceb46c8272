use mathlib.Core.Path.{ap, ◌∙◌}
use Rattle.plain.specs.Told.{told_clamped}
use Rattle.winchbarn.proofs.winchbarn_clamp_position.Goals as goal

pub returns : goal.returns
returns c = c.told_clamped.ensures ∙ ap told_clamped c.clamp_position.ensures
