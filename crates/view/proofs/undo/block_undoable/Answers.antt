use Rattle.std.proofs.lemmas.Bool.Decides.{nat_tests}
use native.Mathlib.Omega.{arith}
use Rattle.text.proofs.Order.{row_min, col_min}
use Rattle.text.proofs.Laws.{start-le}
use Rattle.text.specs.Text.{is_lf}
use Rattle.edit.proofs.Wides.{block_absent, block_wide}
use Rattle.view.proofs.undo.block_undoable.Goals as goal

pub returns-then-lt : goal.returns-then-lt
returns-then-lt c = let a = c.args in block_absent a.text.now a.start a.end (grind (arith, nat_tests))

pub offset_bounds-text-from : goal.offset_bounds-text-from
offset_bounds-text-from c = let a = c.args in omega (arith, c.line_to_char-from.ensures, start-le is_lf a.text.now c.min-top.result.0)

pub slice_bounds-rows_wide-count : goal.slice_bounds-rows_wide-count
slice_bounds-rows_wide-count c = let a = c.args in omega (arith, c.line_to_char-from.ensures, start-le is_lf a.text.now c.min-top.result.0)

pub slice_bounds-rows_wide-start : goal.slice_bounds-rows_wide-start
slice_bounds-rows_wide-start c = let a = c.args in omega (arith, c.line_to_char-from.ensures, start-le is_lf a.text.now c.min-top.result.0)

pub returns : goal.returns
returns c = let a = c.args in let top = c.min-top in let left = c.min-left in let from = c.line_to_char-from in block_wide a.text.now a.start a.end top.result.0 left.result.0 from.result.0 c.extent.result _ (grind (arith, nat_tests)) (row_min a.start.row a.end.row top.ensures) (col_min a.start.col a.end.col left.ensures) from.ensures c.extent.ensures c.rows_wide.ensures
