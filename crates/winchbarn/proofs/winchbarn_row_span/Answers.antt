use mathlib.Core.Path.{ap, ◌∙◌}
use Rattle.winchbarn.proofs.Tellings.{by_kind, kindless}
use Rattle.plain.specs.Told.{no_cover, told_span}
use Rattle.select.specs.declared.Selection.{Selection}
use Rattle.select.specs.Selections.{row_span}
use Rattle.winchbarn.proofs.winchbarn_row_span.Goals as goal

pub returns-in-Some : goal.returns-in-Some
returns-in-Some c = by_kind c.args.kind c.args.sel c.meant_selection-meant.result c.meant_selection-meant.ensures _ (no_cover 10) (λ (s : Selection). told_span (row_span s c.args.row)) _ c.in-Some.is (c.told_span.ensures ∙ ap told_span c.row_span.ensures)

pub returns-in-None : goal.returns-in-None
returns-in-None c = kindless c.args.kind c.args.sel c.meant_selection-meant.result c.meant_selection-meant.ensures _ (no_cover 10) (λ (s : Selection). told_span (row_span s c.args.row)) c.in-None.is (rw c.number.ensures at c.no_cover.ensures)
