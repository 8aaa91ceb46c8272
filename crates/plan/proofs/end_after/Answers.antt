use Rattle.text.specs.Text.{is_lf}
use Rattle.text.proofs.Laws.{len_le, last_le}
use Rattle.text.proofs.Spots.{end-in_row, end_below}
use Rattle.std.proofs.Common.{arith}
use Rattle.plan.proofs.end_after.Goals as goal

pub overflow_add-result : goal.overflow_add-result
overflow_add-result c = let a = c.args in omega (arith, c.requires.1, c.requires.2, len_le is_lf a.text.now c.last_row-last.result.0, c.line_char_count-len.ensures)

pub returns-then-last-eq0 : goal.returns-then-last-eq0
returns-then-last-eq0 c = let a = c.args in end-in_row a.text.now a.pos _ _ c.last_row-last.ensures c.line_char_count-len.ensures c.if-last-eq0.true

pub overflow_add-result-2 : goal.overflow_add-result-2
overflow_add-result-2 c = let a = c.args in omega (arith, c.requires.0, c.requires.2, last_le is_lf a.text.now, c.last_row-last.ensures)

pub returns : goal.returns
returns c = let a = c.args in end_below a.text.now a.pos _ _ c.last_row-last.ensures c.line_char_count-len.ensures c.if-last-eq0.false
