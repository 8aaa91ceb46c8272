use Rattle.joining.proofs.JoinRows.{join-none, join_last, join-on}
use Rattle.joining.proofs.+join_steps.Goals as goal

pub returns-then-n-eq0-clause-come : goal.returns-then-n-eq0-clause-come
returns-then-n-eq0-clause-come t c = let a = c.args in let P = join-none a.text.now a.carry a.some a.spaced a.steps.now c.if-n-eq0.true in P.1.0

pub returns-then-n-eq0-clause-by_index : goal.returns-then-n-eq0-clause-by_index
returns-then-n-eq0-clause-by_index t c = let a = c.args in let P = join-none a.text.now a.carry a.some a.spaced a.steps.now c.if-n-eq0.true in P.1.1

pub returns-then-text-next-clause-come : goal.returns-then-text-next-clause-come
returns-then-text-next-clause-come t c = let a = c.args in let P = join_last a.text.now a.carry a.some a.spaced c.line_char_count-len.ensures a.steps.now a.n c.if-text-next.true in P.1.0

pub returns-then-text-next-clause-by_index : goal.returns-then-text-next-clause-by_index
returns-then-text-next-clause-by_index t c = let a = c.args in let P = join_last a.text.now a.carry a.some a.spaced c.line_char_count-len.ensures a.steps.now a.n c.if-text-next.true in P.1.1

pub returns-clause-come : goal.returns-clause-come
returns-clause-come t c = let a = c.args in let E = c.join_steps-more.ensures in let P = join-on a.text.now a.carry a.some a.spaced c.line_char_count-len.ensures _ _ c.if-n-eq0.false c.if-text-next.false c.join_gap-pad.ensures c.put_step.ensures (E.few, (E.come, E.by_index)) in P.1.0

pub returns-clause-by_index : goal.returns-clause-by_index
returns-clause-by_index t c = let a = c.args in let E = c.join_steps-more.ensures in let P = join-on a.text.now a.carry a.some a.spaced c.line_char_count-len.ensures _ _ c.if-n-eq0.false c.if-text-next.false c.join_gap-pad.ensures c.put_step.ensures (E.few, (E.come, E.by_index)) in P.1.1
