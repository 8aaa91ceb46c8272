use Rattle.text.proofs.Order.{pos_min}
use Rattle.std.proofs.lemmas.Result.{err_from_is_err_and}
use Rattle.work.proofs.Replacing.{cut_passed, cut_passed-lent, cut_small, replace_fits, replace_refused, replace_done, put-start, put-end}
use Rattle.work.proofs.Working.{front_long, sums_used, sums_cut}
use mathlib.Core.List.{[]}
use native.Mathlib.Omega.{arith}
use borrow.Author.Rules.{rules}
use Rattle.work.proofs.replace.Goals as goal

pub sum_steps-sums-requires : goal.sum_steps-sums-requires
sum_steps-sums-requires c = let a = c.args in
    let R = c.resolve_chars-cut.ensures a.payload.now [] [] in let n = front_long a.text.now a.view.used c.requires.0 in (R.numbers, R.few, cut_passed-lent a.view a.text.now a.payload.now a.start a.end c.requires.0 _ _ (c.resolve_chars-cut.ensures a.payload.now [] []), omega (arith, n, c.requires.1), R.come)

pub overflow_add-plan : goal.overflow_add-plan
overflow_add-plan c = let a = c.args in
    let e = c.sum_steps-sums.ensures in let el = sums_used _ _ _ _ _ _ e _ (front_long a.text.now a.view.used c.requires.0) in let eg = sums_cut _ _ _ _ _ _ e in let u = cut_small a.view a.text.now a.payload.now a.start a.end c.requires.0 _ _ (c.resolve_chars-cut.ensures a.payload.now [] []) _ _ el eg in search (rules, u, c.requires.1, c.requires.2)

pub returns-in_err-judge : goal.returns-in_err-judge
returns-in_err-judge c = let a = c.args in
    let e = c.sum_steps-sums.ensures in let el = sums_used _ _ _ _ _ _ e _ (front_long a.text.now a.view.used c.requires.0) in let eg = sums_cut _ _ _ _ _ _ e in λ l e₁ e₂ e₃. let p = err_from_is_err_and c.from_residual.result c.from_residual.ensures.1 in rw (p.1, p.2) (replace_refused a.view a.text.now a.payload.now a.start a.end c.requires.0 _ _ (c.resolve_chars-cut.ensures a.payload.now [] []) _ _ el eg a.room _ c.judge.ensures _ c.in_err-judge.was a.outpayload.now c.requires.3 c.requires.4 l e₁ e₂ e₃)

pub record_cut-requires : goal.record_cut-requires
record_cut-requires c = let a = c.args in
    let e = c.sum_steps-sums.ensures in let el = sums_used _ _ _ _ _ _ e _ (front_long a.text.now a.view.used c.requires.0) in let eg = sums_cut _ _ _ _ _ _ e in let F = replace_fits a.view a.text.now a.payload.now a.start a.end c.requires.0 _ _ (c.resolve_chars-cut.ensures a.payload.now [] []) _ _ el eg a.room _ c.judge.ensures c.in_ok-judge.was in let R = c.resolve_chars-cut.ensures a.payload.now [] [] in let w = cut_passed a.view a.text.now a.payload.now a.start a.end c.requires.0 _ _ (c.resolve_chars-cut.ensures a.payload.now [] []) in (R.numbers, cut_passed-lent a.view a.text.now a.payload.now a.start a.end c.requires.0 _ _ (c.resolve_chars-cut.ensures a.payload.now [] []), omega (arith, F.2, eg, c.requires.4))

pub commit-requires : goal.commit-requires
commit-requires c = let a = c.args in
    let e = c.sum_steps-sums.ensures in let el = sums_used _ _ _ _ _ _ e _ (front_long a.text.now a.view.used c.requires.0) in let eg = sums_cut _ _ _ _ _ _ e in let F = replace_fits a.view a.text.now a.payload.now a.start a.end c.requires.0 _ _ (c.resolve_chars-cut.ensures a.payload.now [] []) _ _ el eg a.room _ c.judge.ensures c.in_ok-judge.was in let R = c.resolve_chars-cut.ensures a.payload.now [] [] in let w = cut_passed a.view a.text.now a.payload.now a.start a.end c.requires.0 _ _ (c.resolve_chars-cut.ensures a.payload.now [] []) in (R.numbers, R.come, w, c.requires.0, el, omega (arith, F.0, c.requires.3), R.few)

pub insert_at-put-requires : goal.insert_at-put-requires
insert_at-put-requires c = let a = c.args in
    let e = c.sum_steps-sums.ensures in let el = sums_used _ _ _ _ _ _ e _ (front_long a.text.now a.view.used c.requires.0) in let eg = sums_cut _ _ _ _ _ _ e in let F = replace_fits a.view a.text.now a.payload.now a.start a.end c.requires.0 _ _ (c.resolve_chars-cut.ensures a.payload.now [] []) _ _ el eg a.room _ c.judge.ensures c.in_ok-judge.was in let R = c.resolve_chars-cut.ensures a.payload.now [] [] in let w = cut_passed a.view a.text.now a.payload.now a.start a.end c.requires.0 _ _ (c.resolve_chars-cut.ensures a.payload.now [] []) in search (rules, F.0, F.1, c.requires.3, c.requires.2)

pub returns : goal.returns
returns c = let a = c.args in
    let e = c.sum_steps-sums.ensures in let el = sums_used _ _ _ _ _ _ e _ (front_long a.text.now a.view.used c.requires.0) in let eg = sums_cut _ _ _ _ _ _ e in λ l e₁ e₂ e₃. replace_done a.view a.text.now a.payload.now a.start a.end c.requires.0 _ _ (c.resolve_chars-cut.ensures a.payload.now [] []) _ _ el eg a.room _ c.judge.ensures _ a.outpayload.now _ c.commit.ensures (c.record_cut.ensures a.payload.now) _ (pos_min a.start a.end c.min.ensures) _ c.insert_at-put.ensures.text c.in_ok-judge.was c.requires.3 c.requires.4 _ _ (put-start _ _ _ c.insert_at-put.ensures.value) (put-end _ _ _ c.insert_at-put.ensures.value) _ c.done.ensures l e₁ e₂ e₃
