use mathlib.Core.Bool.{true}
use mathlib.Core.Path.{◌≡◌, sym, ap, ◌∙◌}
use Prim.Native.Nat.{ℕ, ◌≤◌}
use mathlib.Core.List.{List}
use lib.ListN.{length, take}
use Rattle.std.proofs.lemmas.Result.{err_from_is_err_and}
use Rattle.promise.specs.Slices.{over}
use Rattle.edit.specs.Call.{plan_of, lent}
use Rattle.blocks.specs.Blocks.{put_from}
use Rattle.blocks.proofs.Reached.{plan_found, room_found, chunks_asked, text-found, applied-found, pads_found, widths_found, payload_none}
use Rattle.edit.proofs.Workers.{worked_fits, worked_refused, worked_done}
use native.Mathlib.Omega.{arith}
use Rattle.blocks.proofs.insert_block.Goals.{After-judge, In_ok-judge}
use Rattle.blocks.proofs.insert_block.Goals as goal

planned : (c : After-judge) → plan_of (put_from c.args.text.now c.args.view.used c.args.at c.args.payload.now c.args.lens.now)
    ≡ record { used = c.put_size-extent.result.size; payload = 0; first = length c.args.lens.now; second = length c.args.lens.now }
planned c = let a = c.args in
    plan_found a.text.now a.view.used a.at a.payload.now a.lens.now c.rows_from-rows.result c.put_size-extent.result.size c.rows_from-rows.ensures c.requires.4 c.put_size-extent.ensures.0

roomy : (c : In_ok-judge) → (c.put_size-extent.result.size ≤ length c.args.text.now) × (c.put_size-extent.result.size ≤ 16_384) × (length c.args.lens.now ≤ length c.args.widths.now) × (length c.args.lens.now ≤ length c.args.pads.now)
roomy c = let a = c.args in let p = c.requires in
    room_found a.text.now a.view.used a.at a.payload.now a.lens.now c.rows_from-rows.result c.put_size-extent.result.size c.rows_from-rows.ensures p.4 c.put_size-extent.ensures.0 a.room
    (worked_fits true a.room (put_from a.text.now a.view.used a.at a.payload.now a.lens.now) c.judge.result (c.judge.ensures (put_from a.text.now a.view.used a.at a.payload.now a.lens.now) (plan_found a.text.now a.view.used a.at a.payload.now a.lens.now c.rows_from-rows.result c.put_size-extent.result.size c.rows_from-rows.ensures p.4 c.put_size-extent.ensures.0)) c.in_ok-judge.was) a.widths.now a.pads.now p.6 p.7 p.8

pub returns-in_err-judge : goal.returns-in_err-judge
returns-in_err-judge c = let a = c.args in λ x f s op e. let p = err_from_is_err_and c.from_residual.result c.from_residual.ensures.1 in rw (p.1, p.2) (worked_refused true a.room (put_from a.text.now a.view.used a.at a.payload.now a.lens.now) c.judge.result (c.judge.ensures (put_from a.text.now a.view.used a.at a.payload.now a.lens.now) (planned (goal.at.returns-in_err-judge c).After-judge)) a.view (lent a.text.now x f s op a.widths.now a.pads.now) e _ c.in_err-judge.was)

pub put_chunks-requires : goal.put_chunks-requires
put_chunks-requires c = let a = c.args in let k = roomy (goal.at.put_chunks-requires c).In_ok-judge in let p = c.requires in chunks_asked a.text.now a.view.used a.at a.payload.now a.lens.now c.rows_from-rows.result c.put_size-extent.result.size c.rows_from-rows.ensures c.requires.4 c.put_size-extent.ensures.0 c.put_size-extent.result.start.0 c.put_size-extent.ensures.1 c.put_size-extent.result.end.0 c.put_size-extent.ensures.2 p.0 p.2 p.3 p.5 k.0 k.1 a.pads.now k.3

pub fill-requires : goal.fill-requires
fill-requires c = let k = roomy (goal.at.fill-requires c).In_ok-judge in let e = c.rows_from-rows.ensures in omega (arith, k.3, e)

pub copy_in-requires : goal.copy_in-requires
copy_in-requires c = let k = roomy (goal.at.copy_in-requires c).In_ok-judge in omega (arith, k.2)

pub slice_bounds-clamp-end : goal.slice_bounds-clamp-end
slice_bounds-clamp-end c = let k = roomy (goal.at.slice_bounds-clamp-end c).In_ok-judge in omega (arith, k.0)

pub clamp-cursor-requires : goal.clamp-cursor-requires
clamp-cursor-requires c = let k = roomy (goal.at.clamp-cursor-requires c).In_ok-judge in omega (arith, k.1)

pub returns : goal.returns
returns c = let a = c.args in λ x f s op e. worked_done true a.room (put_from a.text.now a.view.used a.at a.payload.now a.lens.now) c.judge.result (c.judge.ensures (put_from a.text.now a.view.used a.at a.payload.now a.lens.now) (planned (goal.at.returns c).After-judge)) a.view (lent a.text.now x f s op a.widths.now a.pads.now) e c.in_ok-judge.was _ _ _ _ _ (applied-found a.text.now a.view.used a.at a.payload.now a.lens.now c.rows_from-rows.result c.put_size-extent.result.size c.rows_from-rows.ensures c.requires.4 c.put_size-extent.ensures.0 c.put_chunks.new.text a.pads.now c.put_chunks.new.pads c.fill.new.text c.put_chunks.ensures a.view _ _ c.clamp-cursor.ensures c.next_view.ensures) (text-found a.text.now a.view.used a.at a.payload.now a.lens.now c.rows_from-rows.result c.put_size-extent.result.size c.rows_from-rows.ensures c.requires.4 c.put_size-extent.ensures.0 c.put_chunks.new.text a.pads.now c.put_chunks.new.pads c.fill.new.text c.put_chunks.ensures) (sym (ap (λ (y : List ℕ). over y op) (payload_none (take a.view.used a.text.now) a.at a.payload.now a.lens.now))) (c.copy_in.ensures ∙ widths_found (take a.view.used a.text.now) a.at a.payload.now a.lens.now a.widths.now) (pads_found a.text.now a.view.used a.at a.payload.now a.lens.now c.rows_from-rows.result c.put_size-extent.result.size c.rows_from-rows.ensures c.requires.4 c.put_size-extent.ensures.0 c.put_chunks.new.text a.pads.now c.put_chunks.new.pads c.fill.new.text c.put_chunks.ensures c.fill.ensures)
