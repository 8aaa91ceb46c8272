use Prim.Native.Nat.{◌-◌}
use Rattle.text.proofs.Order.{col_min}
use Rattle.text.specs.Text.{is_lf}
use Rattle.text.proofs.Laws.{start-le}
use Rattle.blocks.proofs.Starts.{scan_within}
use Rattle.chunks.proofs.Cuts.{cut_found}
use native.Mathlib.Omega.{arith}
use Rattle.chunks.proofs.cut_splice.Goals as goal

pub offset_bounds-text-start : goal.offset_bounds-text-start
offset_bounds-text-start c = omega (arith, start-le is_lf c.args.text.now c.args.pos.row.0, c.requires.2)

pub slice_bounds-line_char_count-count : goal.slice_bounds-line_char_count-count
slice_bounds-line_char_count-count c = omega (arith, start-le is_lf c.args.text.now c.args.pos.row.0, c.requires.2)

pub slice_bounds-line_char_count-start : goal.slice_bounds-line_char_count-start
slice_bounds-line_char_count-start c = omega (arith, start-le is_lf c.args.text.now c.args.pos.row.0, c.requires.2)

pub overflow_add-result : goal.overflow_add-result
overflow_add-result c = omega (arith, scan_within c.args.text.now c.args.begin.0 _ c.line_char_count-len.ensures (omega (arith, start-le is_lf c.args.text.now c.args.pos.row.0, c.requires.2)), c.requires.0, col_min (record { 0 = c.saturating_sub.result }) c.line_char_count-len.result c.min-left.ensures)

pub overflow_add-result-2 : goal.overflow_add-result-2
overflow_add-result-2 c = omega (arith, scan_within c.args.text.now c.args.begin.0 _ c.line_char_count-len.ensures (omega (arith, start-le is_lf c.args.text.now c.args.pos.row.0, c.requires.2)), c.requires.0, col_min c.args.pos.col c.line_char_count-len.result c.min-chunk.ensures)

pub overflow_add-result-3 : goal.overflow_add-result-3
overflow_add-result-3 c = omega (arith, scan_within c.args.text.now c.args.begin.0 _ c.line_char_count-len.ensures (omega (arith, start-le is_lf c.args.text.now c.args.pos.row.0, c.requires.2)), c.requires.0, col_min c.args.pos.col c.line_char_count-len.result c.min-chunk.ensures)

pub overflow_add-result-4 : goal.overflow_add-result-4
overflow_add-result-4 c = omega (arith, scan_within c.args.text.now c.args.begin.0 _ c.line_char_count-len.ensures (omega (arith, start-le is_lf c.args.text.now c.args.pos.row.0, c.requires.2)), c.requires.0, col_min c.args.pos.col c.line_char_count-len.result c.min-chunk.ensures, col_min (record { 0 = c.args.width }) (record { 0 = c.line_char_count-len.result.0 - c.min-chunk.result.0 }) c.min-wide.ensures)

pub overflow_add-result-5 : goal.overflow_add-result-5
overflow_add-result-5 c = omega (arith, scan_within c.args.text.now c.args.begin.0 _ c.line_char_count-len.ensures (omega (arith, start-le is_lf c.args.text.now c.args.pos.row.0, c.requires.2)), c.requires.0)

pub returns : goal.returns
returns c = cut_found c.args.text.now c.args.pos c.args.width c.args.pad c.args.begin.0 c.line_char_count-len.result.0 c.requires.1 c.requires.2 c.line_char_count-len.ensures c.min-left.result.0 _ _ (omega (arith, col_min (record { 0 = c.saturating_sub.result }) c.line_char_count-len.result c.min-left.ensures)) (col_min c.args.pos.col c.line_char_count-len.result c.min-chunk.ensures) (col_min (record { 0 = c.args.width }) (record { 0 = c.line_char_count-len.result.0 - c.min-chunk.result.0 }) c.min-wide.ensures)
