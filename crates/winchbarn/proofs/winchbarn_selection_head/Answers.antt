use mathlib.Core.Path.{ap, ◌∙◌}
use Rattle.winchbarn.proofs.Tellings.{by_kind, kindless}
use Rattle.plain.specs.Told.{found_at, not_found}
use Rattle.select.specs.declared.Selection.{Selection}
use Rattle.select.specs.Selections.{head_of}
use Rattle.winchbarn.proofs.winchbarn_selection_head.Goals as goal

pub returns-in-Some : goal.returns-in-Some
returns-in-Some c = by_kind c.args.kind c.args.sel c.meant_selection-meant.result c.meant_selection-meant.ensures _ (not_found 10) (λ (s : Selection). found_at (head_of s)) _ c.in-Some.is (c.found_at.ensures ∙ ap found_at c.head.ensures)

pub returns-in-None : goal.returns-in-None
returns-in-None c = kindless c.args.kind c.args.sel c.meant_selection-meant.result c.meant_selection-meant.ensures _ (not_found 10) (λ (s : Selection). found_at (head_of s)) c.in-None.is (rw c.number.ensures at c.not_found.ensures)
