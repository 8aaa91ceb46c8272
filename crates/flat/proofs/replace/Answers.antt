use mathlib.Core.Path.{◌∙◌, ap}
use mathlib.Core.Bool.{true}
use lib.ListN.{take}
use Rattle.text.proofs.Order.{pos_min}
use Rattle.std.proofs.lemmas.Result.{err_from_is_err_and}
use Rattle.text.specs.Text.{is_lf}
use Rattle.edit.specs.declared.Plan.{Plan}
use Rattle.edit.specs.Edits.{replaced}
use Rattle.edit.specs.Call.{lent}
use Rattle.edit.proofs.Workers.{worked_fits, worked_refused, worked_leaves}
use Rattle.flat.proofs.Deleting.{char_within, char_kept, found_within}
use Rattle.flat.proofs.Replacing.{replace_plan, replace_done}
use native.Mathlib.Omega.{arith}
use Rattle.flat.proofs.replace.Goals as goal

pub overflow_sub-gone : goal.overflow_sub-gone
overflow_sub-gone c = let a = c.args in let w = char_within a.view a.text.now a.start a.end c.requires.0 _ c.char_cut-cut.ensures in w.0

pub overflow_sub-left : goal.overflow_sub-left
overflow_sub-left c = let a = c.args in let w = char_within a.view a.text.now a.start a.end c.requires.0 _ c.char_cut-cut.ensures in omega (arith, w.0, w.1)

pub returns-in_err-judge_flat : goal.returns-in_err-judge_flat
returns-in_err-judge_flat c = let a = c.args in
    λ x f y of os same. let p = err_from_is_err_and c.from_residual.result c.from_residual.ensures.1 in rw (p.1, p.2) (worked_refused true a.room (replaced is_lf (take a.view.used a.text.now) a.start a.end a.payload.now) _ (c.judge_flat.ensures (replaced is_lf (take a.view.used a.text.now) a.start a.end a.payload.now) (replace_plan a.view a.text.now a.payload.now a.start a.end c.requires.0 _ c.char_cut-cut.ensures)) a.view (lent a.text.now x f y a.out.now of os) same _ c.in_err-judge_flat.was)

pub close_gap-requires : goal.close_gap-requires
close_gap-requires c = let a = c.args in
    let w = char_within a.view a.text.now a.start a.end c.requires.0 _ c.char_cut-cut.ensures in let q = replace_plan a.view a.text.now a.payload.now a.start a.end c.requires.0 _ c.char_cut-cut.ensures in let f = worked_fits true a.room (replaced is_lf (take a.view.used a.text.now) a.start a.end a.payload.now) _ (c.judge_flat.ensures (replaced is_lf (take a.view.used a.text.now) a.start a.end a.payload.now) q) c.in_ok-judge_flat.was in
    (w.0, w.1, c.requires.0, omega (arith, f.payload, ap (λ (z : Plan). z.payload) q, c.requires.4))

pub end_after-to-requires : goal.end_after-to-requires
end_after-to-requires c = let a = c.args in
    let g = found_within a.view a.text.now a.start a.end c.requires.0 _ c.char_cut-cut.ensures _ a.out.now _ c.close_gap.ensures _ _ c.locate-place.ensures in (omega (arith, g.0, c.requires.1), omega (arith, g.1, c.requires.1), c.requires.2)

pub open_gap-requires : goal.open_gap-requires
open_gap-requires c = let a = c.args in
    let g = found_within a.view a.text.now a.start a.end c.requires.0 _ c.char_cut-cut.ensures _ a.out.now _ c.close_gap.ensures _ _ c.locate-place.ensures in let w = char_within a.view a.text.now a.start a.end c.requires.0 _ c.char_cut-cut.ensures in let q = replace_plan a.view a.text.now a.payload.now a.start a.end c.requires.0 _ c.char_cut-cut.ensures in let f = worked_fits true a.room (replaced is_lf (take a.view.used a.text.now) a.start a.end a.payload.now) _ (c.judge_flat.ensures (replaced is_lf (take a.view.used a.text.now) a.start a.end a.payload.now) q) c.in_ok-judge_flat.was in
    (g.2, omega (arith, char_kept a.view a.text.now a.start a.end c.requires.0 _ c.char_cut-cut.ensures _ a.out.now _ c.close_gap.ensures, f.buffer, ap (λ (z : Plan). z.used) q, c.requires.3))

pub returns : goal.returns
returns c = let a = c.args in
    let q = replace_plan a.view a.text.now a.payload.now a.start a.end c.requires.0 _ c.char_cut-cut.ensures in let g = worked_fits true a.room (replaced is_lf (take a.view.used a.text.now) a.start a.end a.payload.now) _ (c.judge_flat.ensures (replaced is_lf (take a.view.used a.text.now) a.start a.end a.payload.now) q) c.in_ok-judge_flat.was in
    λ x f y of os same. replace_done a.view a.text.now a.payload.now a.start a.end c.requires.0 _ c.char_cut-cut.ensures _ (pos_min a.start a.end c.min-from.ensures) _ _ _ a.out.now _ c.close_gap.ensures c.locate-place.ensures c.end_after-to.ensures _ _ c.open_gap.ensures (omega (arith, g.buffer, ap (λ (z : Plan). z.used) q, c.requires.3)) c.next_view.ensures x f y of os
    ∙ worked_leaves true a.room (replaced is_lf (take a.view.used a.text.now) a.start a.end a.payload.now) _ (c.judge_flat.ensures (replaced is_lf (take a.view.used a.text.now) a.start a.end a.payload.now) q) a.view (lent a.text.now x f y a.out.now of os) same c.in_ok-judge_flat.was
