use Rattle.std.proofs.lemmas.Result.{err_from_is_err_and}
use Rattle.work.proofs.Working.{text-lent, work_asks, work_come, work_firsts, work_seconds, work_numbers, work_refused, work_done}
use borrow.Author.Rules.{rules}
use Rattle.work.proofs.work_by.Goals as goal

pub plan_edit-planned-requires : goal.plan_edit-planned-requires
plan_edit-planned-requires c = let a = c.args in
    let w = text-lent a.edit a.text.now a.payload.now a.first.now a.second.now a.view.used c.requires.0 c.requires.1 c.requires.2 in (w.0, w.1, c.requires.3)

pub returns-in_err-judge : goal.returns-in_err-judge
returns-in_err-judge c = let a = c.args in
    λ l e₁ e₂ e₃ e₄ e₅ e₆ e₇. let p = err_from_is_err_and c.from_residual.result c.from_residual.ensures.1 in rw (p.1, p.2) (work_refused a.view a.edit a.text.now a.payload.now a.first.now a.second.now c.requires.0 _ _ c.requires.5 c.plan_edit-planned.ensures.resolved _ c.plan_edit-planned.ensures.plan a.room c.judge.result c.judge.ensures a.outpayload.now a.outfirst.now a.outsecond.now c.requires.4 l e₁ e₂ e₃ e₄ e₅ e₆ e₇ _ c.in_err-judge.was)

pub record_cut-requires : goal.record_cut-requires
record_cut-requires c = let a = c.args in
    let k = work_asks a.view a.edit a.text.now a.payload.now a.first.now a.second.now c.requires.0 _ _ c.requires.5 c.plan_edit-planned.ensures.resolved _ c.plan_edit-planned.ensures.plan a.room c.judge.result c.judge.ensures a.outpayload.now a.outfirst.now a.outsecond.now c.requires.4 c.in_ok-judge.was in let n = work_numbers a.view a.edit a.text.now a.payload.now a.first.now a.second.now c.requires.0 _ _ c.requires.5 c.plan_edit-planned.ensures.resolved _ c.plan_edit-planned.ensures.plan a.room c.judge.result c.judge.ensures in (n, k.passed-lent, k.cut)

pub record_lists-requires : goal.record_lists-requires
record_lists-requires c = let a = c.args in
    let k = work_asks a.view a.edit a.text.now a.payload.now a.first.now a.second.now c.requires.0 _ _ c.requires.5 c.plan_edit-planned.ensures.resolved _ c.plan_edit-planned.ensures.plan a.room c.judge.result c.judge.ensures a.outpayload.now a.outfirst.now a.outsecond.now c.requires.4 c.in_ok-judge.was in let n = work_numbers a.view a.edit a.text.now a.payload.now a.first.now a.second.now c.requires.0 _ _ c.requires.5 c.plan_edit-planned.ensures.resolved _ c.plan_edit-planned.ensures.plan a.room c.judge.result c.judge.ensures in (n, k.laid, k.firsts, k.seconds)

pub commit-requires : goal.commit-requires
commit-requires c = let a = c.args in
    let k = work_asks a.view a.edit a.text.now a.payload.now a.first.now a.second.now c.requires.0 _ _ c.requires.5 c.plan_edit-planned.ensures.resolved _ c.plan_edit-planned.ensures.plan a.room c.judge.result c.judge.ensures a.outpayload.now a.outfirst.now a.outsecond.now c.requires.4 c.in_ok-judge.was in let n = work_numbers a.view a.edit a.text.now a.payload.now a.first.now a.second.now c.requires.0 _ _ c.requires.5 c.plan_edit-planned.ensures.resolved _ c.plan_edit-planned.ensures.plan a.room c.judge.result c.judge.ensures in (n, work_come a.view a.edit a.text.now a.payload.now a.first.now a.second.now c.requires.0 _ _ c.requires.5 c.plan_edit-planned.ensures.resolved _ c.plan_edit-planned.ensures.plan a.room c.judge.result c.judge.ensures, k.passed, c.requires.0, k.size, k.room, c.plan_edit-planned.ensures.resolved.few)

pub slice_bounds-cursor_in-end : goal.slice_bounds-cursor_in-end
slice_bounds-cursor_in-end c = let a = c.args in
    let k = work_asks a.view a.edit a.text.now a.payload.now a.first.now a.second.now c.requires.0 _ _ c.requires.5 c.plan_edit-planned.ensures.resolved _ c.plan_edit-planned.ensures.plan a.room c.judge.result c.judge.ensures a.outpayload.now a.outfirst.now a.outsecond.now c.requires.4 c.in_ok-judge.was in let n = work_numbers a.view a.edit a.text.now a.payload.now a.first.now a.second.now c.requires.0 _ _ c.requires.5 c.plan_edit-planned.ensures.resolved _ c.plan_edit-planned.ensures.plan a.room c.judge.result c.judge.ensures in search (rules, k.room)

pub cursor_in-cursor-requires : goal.cursor_in-cursor-requires
cursor_in-cursor-requires c = let a = c.args in
    let k = work_asks a.view a.edit a.text.now a.payload.now a.first.now a.second.now c.requires.0 _ _ c.requires.5 c.plan_edit-planned.ensures.resolved _ c.plan_edit-planned.ensures.plan a.room c.judge.result c.judge.ensures a.outpayload.now a.outfirst.now a.outsecond.now c.requires.4 c.in_ok-judge.was in let n = work_numbers a.view a.edit a.text.now a.payload.now a.first.now a.second.now c.requires.0 _ _ c.requires.5 c.plan_edit-planned.ensures.resolved _ c.plan_edit-planned.ensures.plan a.room c.judge.result c.judge.ensures in search (rules, k.room, k.limit)

pub returns : goal.returns
returns c = let a = c.args in
    let o = c.record_lists.ensures in
    λ l e₁ e₂ e₃ e₄ e₅ e₆ e₇. work_done a.view a.edit a.text.now a.payload.now a.first.now a.second.now c.requires.0 _ _ c.requires.5 c.plan_edit-planned.ensures.resolved _ c.plan_edit-planned.ensures.plan a.room c.judge.result c.judge.ensures a.outpayload.now a.outfirst.now a.outsecond.now c.requires.4 l e₁ e₂ e₃ e₄ e₅ e₆ e₇ c.in_ok-judge.was _ _ _ _ _ _ c.done.ensures c.cursor_in-cursor.ensures c.commit.ensures (c.record_cut.ensures a.payload.now) (work_firsts a.view a.edit a.text.now a.payload.now a.first.now a.second.now c.requires.0 _ _ c.requires.5 c.plan_edit-planned.ensures.resolved _ c.plan_edit-planned.ensures.plan a.room c.judge.result c.judge.ensures a.outfirst.now _ (o.first a.payload.now (work_come a.view a.edit a.text.now a.payload.now a.first.now a.second.now c.requires.0 _ _ c.requires.5 c.plan_edit-planned.ensures.resolved _ c.plan_edit-planned.ensures.plan a.room c.judge.result c.judge.ensures))) (work_seconds a.view a.edit a.text.now a.payload.now a.first.now a.second.now c.requires.0 _ _ c.requires.5 c.plan_edit-planned.ensures.resolved _ c.plan_edit-planned.ensures.plan a.room c.judge.result c.judge.ensures a.outsecond.now _ (o.second a.payload.now))
