use mathlib.Core.Path.{ap, ◌∙◌}
use Rattle.winchbarn.proofs.Tellings.{by_kind, kindless}
use Rattle.plain.specs.Told.{found_sel, no_sel, ends_of}
use Rattle.select.specs.declared.Selection.{Selection}
use Rattle.select.specs.Selections.{extended}
use Rattle.winchbarn.proofs.winchbarn_selection_extend_to.Goals as goal

pub returns-in-Some : goal.returns-in-Some
returns-in-Some c = by_kind c.args.kind c.args.sel c.meant_selection-meant.result c.meant_selection-meant.ensures _ (no_sel 10) (λ (s : Selection). found_sel (ends_of (extended s c.args.pos))) _ c.in-Some.is (c.found_sel.ensures ∙ ap found_sel (c.told_ends.ensures ∙ ap ends_of c.extend_to.ensures))

pub returns-in-None : goal.returns-in-None
returns-in-None c = kindless c.args.kind c.args.sel c.meant_selection-meant.result c.meant_selection-meant.ensures _ (no_sel 10) (λ (s : Selection). found_sel (ends_of (extended s c.args.pos))) c.in-None.is (rw c.number.ensures at c.no_sel.ensures)
