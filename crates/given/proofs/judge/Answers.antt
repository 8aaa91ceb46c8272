use native.Mathlib.Omega.{arith}
use lib.ListN.{length-take, length-drop}
use Rattle.text.proofs.Texts.{good_text}
use Rattle.edit.specs.Call.{lent}
use Rattle.given.proofs.Verdicts.{bad_text, judged}
use Rattle.given.proofs.judge.Goals as goal

pub returns-then-not-is_text : goal.returns-then-not-is_text
returns-then-not-is_text c = let a = c.args in λ op of os. bad_text a.view a.edit (lent a.buffer.now a.payload.now a.first.now a.second.now op of os) _ c.is_text.ensures c.if-not-is_text.true-raw

pub slice_bounds-judge_admitted-end : goal.slice_bounds-judge_admitted-end
slice_bounds-judge_admitted-end c = let a = c.args in (good_text a.buffer.now a.view.used _ c.is_text.ensures c.if-not-is_text.false-raw).0

pub judge_admitted-requires : goal.judge_admitted-requires
judge_admitted-requires c = let a = c.args in let g = good_text a.buffer.now a.view.used _ c.is_text.ensures c.if-not-is_text.false-raw in simp (length-take, length-drop) (omega arith)

pub returns : goal.returns
returns c = let a = c.args in λ op of os. judged a.view a.edit (lent a.buffer.now a.payload.now a.first.now a.second.now op of os) _ c.is_text.ensures _ c.if-not-is_text.false-raw c.judge_admitted.ensures
