use mathlib.Core.Path.{ap, ◌∙◌}
use Rattle.winchbarn.proofs.Tellings.{by_kind, kindless}
use Rattle.plain.specs.Told.{no_bounds, told_bounds}
use Rattle.select.specs.declared.Selection.{Selection}
use Rattle.select.specs.Selections.{row_bounds}
use Rattle.winchbarn.proofs.winchbarn_selection_row_bounds.Goals as goal

pub returns-in-Some : goal.returns-in-Some
returns-in-Some c = by_kind c.args.kind c.args.sel c.meant_selection-meant.result c.meant_selection-meant.ensures _ (no_bounds 10) (λ (s : Selection). told_bounds (row_bounds s)) _ c.in-Some.is (c.told_bounds.ensures ∙ ap told_bounds c.row_bounds.ensures)

pub returns-in-None : goal.returns-in-None
returns-in-None c = kindless c.args.kind c.args.sel c.meant_selection-meant.result c.meant_selection-meant.ensures _ (no_bounds 10) (λ (s : Selection). told_bounds (row_bounds s)) c.in-None.is (rw c.number.ensures at c.no_bounds.ensures)
