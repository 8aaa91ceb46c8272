use native.Mathlib.Omega.{arith}
use lib.ListN.{length-take, length-drop}
use Rattle.std.proofs.lemmas.Result.{err_from_is_err_and}
use Rattle.text.proofs.Texts.{good_text}
use Rattle.shift.proofs.Verdicts.{shift_bad_text, shift_refused, shift_reversed, shift_fine}
use Rattle.shift.proofs.judging.judge.Goals as goal

pub returns-then-not-is_text : goal.returns-then-not-is_text
returns-then-not-is_text c = let a = c.args in shift_bad_text a.buffer.now a.used a.edit a.payload.now a.first.now a.second.now a.small _ c.is_text.ensures c.if-not-is_text.true-raw

pub slice_bounds-lists_few-end : goal.slice_bounds-lists_few-end
slice_bounds-lists_few-end c = let a = c.args in (good_text a.buffer.now a.used _ c.is_text.ensures c.if-not-is_text.false-raw).0

pub lists_few-few-requires : goal.lists_few-few-requires
lists_few-few-requires c = let a = c.args in let g = good_text a.buffer.now a.used _ c.is_text.ensures c.if-not-is_text.false-raw in simp (length-take, length-drop) (omega arith)

pub returns-in_err-first_refusal : goal.returns-in_err-first_refusal
returns-in_err-first_refusal c = let a = c.args in let p = err_from_is_err_and c.from_residual.result c.from_residual.ensures.1 in rw (p.1, p.2) (shift_refused a.buffer.now a.used a.edit a.payload.now a.first.now a.second.now a.small _ c.is_text.ensures c.if-not-is_text.false-raw _ _ _ c.numbers_small.ensures c.lists_few-few.ensures c.payload_good-good.ensures _ c.first_refusal.ensures _ c.in_err-first_refusal.was)

pub returns-then-not-ordered : goal.returns-then-not-ordered
returns-then-not-ordered c = let a = c.args in shift_reversed a.buffer.now a.used a.edit a.payload.now a.first.now a.second.now a.small _ c.is_text.ensures c.if-not-is_text.false-raw _ _ _ c.numbers_small.ensures c.lists_few-few.ensures c.payload_good-good.ensures _ c.first_refusal.ensures c.in_ok-first_refusal.was _ c.ordered.ensures c.if-not-ordered.true-raw

pub returns : goal.returns
returns c = let a = c.args in shift_fine a.buffer.now a.used a.edit a.payload.now a.first.now a.second.now a.small _ c.is_text.ensures c.if-not-is_text.false-raw _ _ _ c.numbers_small.ensures c.lists_few-few.ensures c.payload_good-good.ensures _ c.first_refusal.ensures c.in_ok-first_refusal.was _ c.ordered.ensures c.if-not-ordered.false-raw
