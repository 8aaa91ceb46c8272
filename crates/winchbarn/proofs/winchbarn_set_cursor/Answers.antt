use mathlib.Core.Path.{ap, ◌∙◌}
use Rattle.plain.specs.Told.{told_view}
use Rattle.winchbarn.proofs.winchbarn_set_cursor.Goals as goal

pub returns : goal.returns
returns c = c.told_cursor.ensures ∙ ap (told_view c.args.view) c.set_cursor.ensures
