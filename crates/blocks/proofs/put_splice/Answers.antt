use Rattle.text.proofs.Order.{col_min}
use Rattle.text.specs.Text.{is_lf}
use Rattle.text.proofs.Laws.{start-le}
use Rattle.blocks.proofs.Starts.{scan_within}
use Rattle.blocks.proofs.Puts.{put-found}
use native.Mathlib.Omega.{arith}
use Rattle.blocks.proofs.put_splice.Goals as goal

pub offset_bounds-text-start : goal.offset_bounds-text-start
offset_bounds-text-start c = omega (arith, start-le is_lf c.args.text.now c.args.pos.row.0, c.requires.2)

pub slice_bounds-line_char_count-count : goal.slice_bounds-line_char_count-count
slice_bounds-line_char_count-count c = omega (arith, start-le is_lf c.args.text.now c.args.pos.row.0, c.requires.2)

pub slice_bounds-line_char_count-start : goal.slice_bounds-line_char_count-start
slice_bounds-line_char_count-start c = omega (arith, start-le is_lf c.args.text.now c.args.pos.row.0, c.requires.2)

pub overflow_add-result : goal.overflow_add-result
overflow_add-result c = let a = c.args in omega (arith, col_min a.pos.col c.line_char_count-len.result c.min-within.ensures, scan_within a.text.now a.begin.0 _ c.line_char_count-len.ensures (omega (arith, start-le is_lf a.text.now a.pos.row.0, c.requires.2)), c.requires.0)

pub overflow_add-result-2 : goal.overflow_add-result-2
overflow_add-result-2 c = let a = c.args in omega (arith, scan_within a.text.now a.begin.0 _ c.line_char_count-len.ensures (omega (arith, start-le is_lf a.text.now a.pos.row.0, c.requires.2)), c.requires.0)

pub returns : goal.returns
returns c = let a = c.args in put-found a.text.now a.begin.0 a.pos.col.0 a.pos.row.0 c.line_char_count-len.result.0 _ c.requires.1 c.requires.2 c.line_char_count-len.ensures (col_min a.pos.col c.line_char_count-len.result c.min-within.ensures)
