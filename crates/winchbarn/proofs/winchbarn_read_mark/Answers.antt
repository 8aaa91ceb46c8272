use mathlib.Core.Path.{ap, ◌∙◌}
use Rattle.told.specs.Lines.{told_mark}
use Rattle.winchbarn.proofs.winchbarn_read_mark.Goals as goal

pub returns : goal.returns
returns c = c.told_mark_read.ensures ∙ ap told_mark c.read_mark_line.ensures
