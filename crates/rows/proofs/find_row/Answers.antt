use mathlib.Core.Path.{◌∙◌}
use Rattle.text.proofs.Laws.{start-before}
use Rattle.text.proofs.Order.{row_min}
use Rattle.text.proofs.Walks.{span-clamped}
use Rattle.text.specs.Text.{is_lf}
use native.Mathlib.Omega.{arith}
use Rattle.rows.proofs.find_row.Goals as goal

pub row_from-requires : goal.row_from-requires
row_from-requires c = let a = c.args in let e = c.line_to_char-start.ensures in
    (start-before is_lf a.text.now a.row.0 (omega (arith, e, c.if-start-text.true)), e)

pub row_from-requires-2 : goal.row_from-requires-2
row_from-requires-2 c = (omega (arith, c.last_row.ensures, row_min c.args.row c.last_row.result c.min-last.ensures), c.line_to_char.ensures)

pub returns : goal.returns
returns c = let a = c.args in
    c.row_from-2.ensures ∙ span-clamped a.text.now a.row.0 _ _ c.last_row.ensures (row_min a.row c.last_row.result c.min-last.ensures)
