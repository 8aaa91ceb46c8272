use Rattle.std.proofs.lemmas.Result.{err_from_is_err_and}
use Rattle.joins.proofs.SplitWorks.{split-refused, split-sizes, split-lent, split-moved, split_done}
use Rattle.text.proofs.Walks.{found_again}
use Rattle.text.proofs.Texts.{front}
use lib.ListN.{length-take, length-drop}
use mathlib.Core.Path.{refl}
use native.Mathlib.Omega.{arith}
use Rattle.joins.proofs.splitting.split.Goals as goal

pub split_plan-plan-requires : goal.split_plan-plan-requires
split_plan-plan-requires c = let a = c.args in (simp (length-take, length-drop) (omega arith), rw (front a.text.now a.view.used) (found_again a.text.now a.view.used a.row.0 c.find_row-found.result c.find_row-found.ensures), c.requires.2)

pub returns-in_err-judge : goal.returns-in_err-judge
returns-in_err-judge c = let a = c.args in λ x f s op of os e. let p = err_from_is_err_and c.from_residual.result c.from_residual.ensures.1 in rw (p.1, p.2) (split-refused a.text.now a.view.used a.row a.cols.now a.flags.now c.find_row-found.result c.find_row-found.ensures c.split_plan-plan.result c.split_plan-plan.ensures a.view a.room c.judge.result c.judge.ensures _ c.in_err-judge.was x f s op of os e)

pub overflow_sub-more : goal.overflow_sub-more
overflow_sub-more c = let a = c.args in omega (arith, split-sizes a.text.now a.view.used a.row a.cols.now a.flags.now c.find_row-found.result c.find_row-found.ensures c.split_plan-plan.result c.split_plan-plan.ensures a.view a.room c.judge.result c.judge.ensures c.in_ok-judge.was c.requires.3 c.requires.0)

pub open_padded-requires : goal.open_padded-requires
open_padded-requires c = let a = c.args in let q = split-sizes a.text.now a.view.used a.row a.cols.now a.flags.now c.find_row-found.result c.find_row-found.ensures c.split_plan-plan.result c.split_plan-plan.ensures a.view a.room c.judge.result c.judge.ensures c.in_ok-judge.was c.requires.3 c.requires.0 in (omega arith, omega arith)

pub overflow_add-until : goal.overflow_add-until
overflow_add-until c = let a = c.args in omega (arith, split-sizes a.text.now a.view.used a.row a.cols.now a.flags.now c.find_row-found.result c.find_row-found.ensures c.split_plan-plan.result c.split_plan-plan.ensures a.view a.room c.judge.result c.judge.ensures c.in_ok-judge.was c.requires.3 c.requires.0)

pub slice_bounds-split_row-end : goal.slice_bounds-split_row-end
slice_bounds-split_row-end c = let a = c.args in let q = split-sizes a.text.now a.view.used a.row a.cols.now a.flags.now c.find_row-found.result c.find_row-found.ensures c.split_plan-plan.result c.split_plan-plan.ensures a.view a.room c.judge.result c.judge.ensures c.in_ok-judge.was c.requires.3 c.requires.0 in omega arith

pub split_row-requires : goal.split_row-requires
split_row-requires c = let a = c.args in split-lent a.text.now a.view.used a.row a.cols.now a.flags.now c.find_row-found.result c.find_row-found.ensures c.split_plan-plan.result c.split_plan-plan.ensures a.view a.room c.judge.result c.judge.ensures c.in_ok-judge.was c.requires.3 c.requires.0 _ c.open_padded.ensures

pub overflow_cast-result : goal.overflow_cast-result
overflow_cast-result c = omega (arith, c.requires.2)

pub returns : goal.returns
returns c = let a = c.args in λ x f y op of os e. split_done a.text.now a.view.used a.row a.cols.now a.flags.now c.find_row-found.result c.find_row-found.ensures c.split_plan-plan.result c.split_plan-plan.ensures a.view a.room c.judge.result c.judge.ensures c.in_ok-judge.was refl _ c.next_view-next.ensures _ c.any_flag.ensures _ x f y op of os
    (split-moved a.text.now a.view.used a.row a.cols.now a.flags.now c.find_row-found.result c.find_row-found.ensures c.split_plan-plan.result c.split_plan-plan.ensures a.view a.room c.judge.result c.judge.ensures c.in_ok-judge.was c.requires.3 c.requires.0 _ c.open_padded.ensures _ c.split_row.ensures) e
