use Rattle.std.proofs.lemmas.Result.{err_from_is_err_and}
use Rattle.joins.proofs.JoinWorks.{join-refused, join-room, end-within, part-found, part_count, kept-sizes, join-moved, join-done}
use Rattle.text.proofs.Walks.{found_again}
use Rattle.text.proofs.Texts.{front}
use lib.ListN.{length-take, length-drop}
use mathlib.Core.Path.{refl}
use native.Mathlib.Omega.{arith}
use borrow.Author.Rules.{rules}
use Rattle.joins.proofs.joining.join.Goals as goal

pub join_plan-plan-requires : goal.join_plan-plan-requires
join_plan-plan-requires c = let a = c.args in (simp (length-take, length-drop) (omega arith), rw (front a.text.now a.view.used) (found_again a.text.now a.view.used a.row.0 c.find_row-found.result c.find_row-found.ensures))

pub returns-in_err-judge : goal.returns-in_err-judge
returns-in_err-judge c = let a = c.args in λ x f s op e. let p = err_from_is_err_and c.from_residual.result c.from_residual.ensures.1 in rw (p.1, p.2) (join-refused a.text.now a.view.used a.row.0 a.count a.spaced c.find_row-found.result c.find_row-found.ensures c.join_plan-plan.result c.join_plan-plan.ensures a.view a.room c.judge.result c.judge.ensures _ c.in_err-judge.was x f s op a.cols.now a.flags.now e)

pub slice_bounds-join_rows-end : goal.slice_bounds-join_rows-end
slice_bounds-join_rows-end c = let a = c.args in omega (arith, end-within a.text.now a.view.used a.row.0 a.count a.spaced c.find_row-found.result c.find_row-found.ensures c.join_plan-plan.result c.join_plan-plan.ensures c.requires.0)

pub join_rows-requires : goal.join_rows-requires
join_rows-requires c = let a = c.args in let q = join-room a.text.now a.view.used a.row.0 a.count a.spaced c.find_row-found.result c.find_row-found.ensures c.join_plan-plan.result c.join_plan-plan.ensures a.view refl a.room c.judge.result c.judge.ensures c.in_ok-judge.was in let w = end-within a.text.now a.view.used a.row.0 a.count a.spaced c.find_row-found.result c.find_row-found.ensures c.join_plan-plan.result c.join_plan-plan.ensures c.requires.0 in
    (simp (length-take, length-drop) (omega arith), omega arith, part-found a.text.now a.view.used a.row.0 a.count a.spaced c.find_row-found.result c.find_row-found.ensures c.join_plan-plan.result c.join_plan-plan.ensures c.requires.0, part_count a.text.now a.view.used a.row.0 a.count a.spaced c.find_row-found.result c.find_row-found.ensures c.join_plan-plan.result c.join_plan-plan.ensures c.requires.0, omega (arith, q.0, c.requires.2), omega (arith, q.1, c.requires.3))

pub overflow_sub-gone : goal.overflow_sub-gone
overflow_sub-gone c = let a = c.args in omega (arith, kept-sizes a.text.now a.view.used a.row.0 a.count a.spaced c.find_row-found.result c.find_row-found.ensures c.join_plan-plan.result c.join_plan-plan.ensures c.requires.0)

pub overflow_sub-kept : goal.overflow_sub-kept
overflow_sub-kept c = let a = c.args in omega (arith, kept-sizes a.text.now a.view.used a.row.0 a.count a.spaced c.find_row-found.result c.find_row-found.ensures c.join_plan-plan.result c.join_plan-plan.ensures c.requires.0)

pub remove-requires : goal.remove-requires
remove-requires c = let a = c.args in (omega arith, omega (arith, end-within a.text.now a.view.used a.row.0 a.count a.spaced c.find_row-found.result c.find_row-found.ensures c.join_plan-plan.result c.join_plan-plan.ensures c.requires.0), search rules)

pub returns : goal.returns
returns c = let a = c.args in λ x f y op e. join-done a.text.now a.view.used a.row.0 a.count a.spaced c.find_row-found.result c.find_row-found.ensures c.join_plan-plan.result c.join_plan-plan.ensures a.view refl a.room c.judge.result c.judge.ensures c.in_ok-judge.was _ c.next_view-next.ensures _ a.cols.now _ a.flags.now _ x f y op
    (join-moved a.text.now a.view.used a.row.0 a.count a.spaced c.find_row-found.result c.find_row-found.ensures c.join_plan-plan.result c.join_plan-plan.ensures c.requires.0 _ _ a.cols.now _ a.flags.now _ c.join_rows.ensures c.remove.ensures) e
