use native.Mathlib.Omega.{arith}
use Rattle.text.proofs.Order.{col_min}
use Rattle.text.specs.Text.{is_lf}
use Rattle.text.proofs.Laws.{len_le}
use Rattle.building.proofs.Builds.{put-none, put_one, put_on}
use Rattle.building.proofs.+put_steps.Goals as goal

pub returns-then-n-eq0-clause-come : goal.returns-then-n-eq0-clause-come
returns-then-n-eq0-clause-come t c = let a = c.args in let P = put-none a.text.now a.lens.now a.carry a.col.0 a.steps.now c.if-n-eq0.true c.requires.1 in P.1.0

pub returns-then-n-eq0-clause-by_index : goal.returns-then-n-eq0-clause-by_index
returns-then-n-eq0-clause-by_index t c = let a = c.args in let P = put-none a.text.now a.lens.now a.carry a.col.0 a.steps.now c.if-n-eq0.true c.requires.1 in P.1.1

pub overflow_add-carry : goal.overflow_add-carry
overflow_add-carry t c = omega (arith, len_le is_lf c.args.text.now 0, col_min c.args.col c.line_char_count-len.result c.min-within.ensures)

pub returns-then-text-next-clause-come : goal.returns-then-text-next-clause-come
returns-then-text-next-clause-come t c = let a = c.args in let P = put_one a.text.now a.lens.now a.carry a.col.0 c.requires.1 c.if-n-eq0.false c.line_char_count-len.ensures (col_min a.col c.line_char_count-len.result c.min-within.ensures) c.put_step.ensures c.if-text-next.true in P.1.0

pub returns-then-text-next-clause-by_index : goal.returns-then-text-next-clause-by_index
returns-then-text-next-clause-by_index t c = let a = c.args in let P = put_one a.text.now a.lens.now a.carry a.col.0 c.requires.1 c.if-n-eq0.false c.line_char_count-len.ensures (col_min a.col c.line_char_count-len.result c.min-within.ensures) c.put_step.ensures c.if-text-next.true in P.1.1

pub returns-clause-come : goal.returns-clause-come
returns-clause-come t c = let a = c.args in let E = c.put_steps-more.ensures in let P = put_on a.text.now a.lens.now a.carry a.col.0 c.requires.1 c.if-n-eq0.false c.line_char_count-len.ensures (col_min a.col c.line_char_count-len.result c.min-within.ensures) c.put_step.ensures _ _ c.if-text-next.false (E.few, (E.come, E.by_index)) in P.1.0

pub returns-clause-by_index : goal.returns-clause-by_index
returns-clause-by_index t c = let a = c.args in let E = c.put_steps-more.ensures in let P = put_on a.text.now a.lens.now a.carry a.col.0 c.requires.1 c.if-n-eq0.false c.line_char_count-len.ensures (col_min a.col c.line_char_count-len.result c.min-within.ensures) c.put_step.ensures _ _ c.if-text-next.false (E.few, (E.come, E.by_index)) in P.1.1
