use mathlib.Core.Path.{◌∙◌, ap}
use mathlib.Core.Bool.{true}
use lib.ListN.{length, take}
use lib.Seq.{length-take-le}
use Rattle.std.proofs.lemmas.Result.{err_from_is_err_and}
use Rattle.text.specs.Text.{is_lf}
use Rattle.text.proofs.Spots.{place-within}
use Rattle.text.proofs.Texts.{front}
use Rattle.edit.specs.Edits.{inserted}
use Rattle.edit.specs.Call.{lent}
use Rattle.edit.proofs.Workers.{worked_fits, worked_refused, worked_leaves}
use Rattle.flat.proofs.Inserting.{insert-size, insert-plan, insert-done}
use native.Mathlib.Omega.{arith}
use Rattle.flat.proofs.insert.Goals as goal

pub returns-in_err-judge_flat : goal.returns-in_err-judge_flat
returns-in_err-judge_flat c = let a = c.args in
    λ x f t op of os same. let p = err_from_is_err_and c.from_residual.result c.from_residual.ensures.1 in rw (p.1, p.2) (worked_refused true a.room (inserted is_lf (take a.view.used a.text.now) a.at a.payload.now) _ (c.judge_flat.ensures (inserted is_lf (take a.view.used a.text.now) a.at a.payload.now) (insert-plan a.view a.text.now a.payload.now a.at c.requires.0)) a.view (lent a.text.now x f t op of os) same _ c.in_err-judge_flat.was)

pub end_after-end-requires : goal.end_after-end-requires
end_after-end-requires c = let a = c.args in
    let w = place-within is_lf _ a.at _ c.locate-place.ensures in let l = length-take-le a.view.used a.text.now c.requires.0 in let m = front a.text.now a.view.used in (omega (arith, w.0, ap length m, l, c.requires.1), omega (arith, w.1, ap length m, l, c.requires.1), c.requires.2)

pub open_gap-requires : goal.open_gap-requires
open_gap-requires c = let a = c.args in
    let w = place-within is_lf _ a.at _ c.locate-place.ensures in let l = length-take-le a.view.used a.text.now c.requires.0 in let m = front a.text.now a.view.used in
    let f = worked_fits true a.room (inserted is_lf (take a.view.used a.text.now) a.at a.payload.now) _ (c.judge_flat.ensures (inserted is_lf (take a.view.used a.text.now) a.at a.payload.now) (insert-plan a.view a.text.now a.payload.now a.at c.requires.0)) c.in_ok-judge_flat.was in
    (omega (arith, w.2, ap length m, l), omega (arith, f.buffer, insert-size a.view a.text.now a.payload.now a.at c.requires.0, c.requires.3))

pub returns : goal.returns
returns c = let a = c.args in
    λ x f t op of os same. insert-done a.view a.text.now a.payload.now a.at c.requires.0 _ _ _ _ c.locate-place.ensures c.end_after-end.ensures c.open_gap.ensures c.next_view.ensures x f t op of os
    ∙ worked_leaves true a.room (inserted is_lf (take a.view.used a.text.now) a.at a.payload.now) _ (c.judge_flat.ensures (inserted is_lf (take a.view.used a.text.now) a.at a.payload.now) (insert-plan a.view a.text.now a.payload.now a.at c.requires.0)) a.view (lent a.text.now x f t op of os) same c.in_ok-judge_flat.was
