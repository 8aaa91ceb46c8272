use mathlib.Core.Bool.{true}
use mathlib.Core.Path.{◌≡◌, sym, ap}
use Prim.Native.Nat.{ℕ, ◌≤◌}
use mathlib.Core.List.{List}
use lib.ListN.{length, take}
use Rattle.std.proofs.lemmas.Result.{err_from_is_err_and}
use Rattle.promise.specs.Slices.{over}
use Rattle.edit.specs.Call.{plan_of, lent}
use Rattle.chunks.proofs.Deleted.{plan_found, room_found, rows-asked, text-found, out_found, lens_found, applied-found, second_none}
use Rattle.chunks.specs.Chunks.{cut_from}
use Rattle.edit.proofs.Workers.{worked_fits, worked_refused, worked_done}
use native.Mathlib.Omega.{arith}
use Rattle.chunks.proofs.delete_chunks.Goals.{After-judge, In_ok-judge}
use Rattle.chunks.proofs.delete_chunks.Goals as goal

planned : (c : After-judge) → plan_of (cut_from c.args.text.now c.args.view.used c.args.at c.args.widths.now c.args.pads.now)
    ≡ record { used = c.cut_size-sizes.result.used; payload = c.cut_size-sizes.result.payload; first = length c.args.widths.now; second = 0 }
planned c = let a = c.args in
    plan_found a.text.now a.view.used a.at a.widths.now a.pads.now c.rows_from-rows.result c.rows_from-rows.ensures c.cut_size-sizes.result c.cut_size-sizes.ensures

roomy : (c : In_ok-judge) → (c.cut_size-sizes.result.used ≤ length c.args.text.now) × (c.cut_size-sizes.result.used ≤ 16_384) × (length (cut_from c.args.text.now c.args.view.used c.args.at c.args.widths.now c.args.pads.now).inverse.payload ≤ length c.args.out.now) × (length c.args.widths.now ≤ length c.args.lens.now)
roomy c = let a = c.args in let p = c.requires in
    room_found a.text.now a.view.used a.at a.widths.now a.pads.now c.rows_from-rows.result c.rows_from-rows.ensures c.cut_size-sizes.result c.cut_size-sizes.ensures a.room
    (worked_fits true a.room (cut_from a.text.now a.view.used a.at a.widths.now a.pads.now) c.judge.result (c.judge.ensures (cut_from a.text.now a.view.used a.at a.widths.now a.pads.now) ((let a = c.args in
    plan_found a.text.now a.view.used a.at a.widths.now a.pads.now c.rows_from-rows.result c.rows_from-rows.ensures c.cut_size-sizes.result c.cut_size-sizes.ensures))) c.in_ok-judge.was) a.out.now a.lens.now p.4 p.5 p.6

pub returns-in_err-judge : goal.returns-in_err-judge
returns-in_err-judge c = let a = c.args in λ x f s os e. let p = err_from_is_err_and c.from_residual.result c.from_residual.ensures.1 in rw (p.1, p.2) (worked_refused true a.room (cut_from a.text.now a.view.used a.at a.widths.now a.pads.now) c.judge.result (c.judge.ensures (cut_from a.text.now a.view.used a.at a.widths.now a.pads.now) (planned (goal.at.returns-in_err-judge c).After-judge)) a.view (lent a.text.now x f s a.out.now a.lens.now os) e _ c.in_err-judge.was)

pub cut_block-requires : goal.cut_block-requires
cut_block-requires c = let a = c.args in let k = roomy (goal.at.cut_block-requires c).In_ok-judge in let p = c.requires in rows-asked a.text.now a.view.used a.at a.widths.now a.pads.now c.rows_from-rows.result c.rows_from-rows.ensures p.0 p.1 p.2 p.3 a.out.now a.lens.now k.2 k.3 c.cut_size-sizes.result c.cut_size-sizes.ensures

pub fill-requires : goal.fill-requires
fill-requires c = let k = roomy (goal.at.fill-requires c).In_ok-judge in let e = c.rows_from-rows.ensures in omega (arith, k.3, e)

pub slice_bounds-clamp-end : goal.slice_bounds-clamp-end
slice_bounds-clamp-end c = let k = roomy (goal.at.slice_bounds-clamp-end c).In_ok-judge in omega (arith, k.0)

pub clamp-cursor-requires : goal.clamp-cursor-requires
clamp-cursor-requires c = let k = roomy (goal.at.clamp-cursor-requires c).In_ok-judge in omega (arith, k.1)

pub returns : goal.returns
returns c = let a = c.args in λ x f s os e. worked_done true a.room (cut_from a.text.now a.view.used a.at a.widths.now a.pads.now) c.judge.result (c.judge.ensures (cut_from a.text.now a.view.used a.at a.widths.now a.pads.now) (planned (goal.at.returns c).After-judge)) a.view (lent a.text.now x f s a.out.now a.lens.now os) e c.in_ok-judge.was _ _ _ _ _ (applied-found a.text.now a.view.used a.at a.widths.now a.pads.now c.rows_from-rows.result c.rows_from-rows.ensures c.cut_block.new.text a.out.now c.cut_block.new.out a.lens.now c.cut_block.new.lens c.fill.new.text c.cut_block.ensures c.cut_size-sizes.result c.cut_size-sizes.ensures a.view _ _ c.clamp-cursor.ensures c.next_view.ensures) (text-found a.text.now a.view.used a.at a.widths.now a.pads.now c.rows_from-rows.result c.rows_from-rows.ensures c.cut_block.new.text a.out.now c.cut_block.new.out a.lens.now c.cut_block.new.lens c.fill.new.text c.cut_block.ensures) (out_found a.text.now a.view.used a.at a.widths.now a.pads.now c.rows_from-rows.result c.rows_from-rows.ensures c.cut_block.new.text a.out.now c.cut_block.new.out a.lens.now c.cut_block.new.lens c.fill.new.text c.cut_block.ensures) (lens_found a.text.now a.view.used a.at a.widths.now a.pads.now c.rows_from-rows.result c.rows_from-rows.ensures c.cut_block.new.text a.out.now c.cut_block.new.out a.lens.now c.cut_block.new.lens c.fill.new.text c.cut_block.ensures c.fill.ensures) (sym (ap (λ (y : List ℕ). over y os) (second_none (take a.view.used a.text.now) a.at a.widths.now a.pads.now)))
