use Prim.Native.Nat.{ℕ}
use lib.ListN.{replicate}
use Rattle.std.proofs.lemmas.Result.{err_from_is_err_and}
use Rattle.reader.proofs.EditLines.{line-fits, zeros_roomy, read_edit, read_refused, no_text, no_mark}
use Rattle.frame.specs.Reads.{frame_read}
use Rattle.framed.proofs.AmongEdits.{held-applied, refusal_applied}
use Rattle.framed.proofs.apply_edit_line.Goals as goal

pub slice_bounds-apply_edit-end : goal.slice_bounds-apply_edit-end
slice_bounds-apply_edit-end c = (read_edit (replicate {A = ℕ} 18_432 0) (replicate {A = ℕ} 4_608 0) (replicate {A = ℕ} 3_687 0) c.read.new.payload c.read.new.first c.read.new.second (frame_read c.args.line.now) (line-fits c.args.line.now c.requires.0 c.requires.1 (replicate {A = ℕ} 18_432 0) (replicate {A = ℕ} 4_608 0) (replicate {A = ℕ} 3_687 0) (zeros_roomy c.args.line.now c.requires.0 c.requires.1)) c.in-Edit.edit c.in-Edit.x c.in-Edit.f c.in-Edit.s (rw c.in-Edit.is at c.in_ok-frame.ensures)).0

pub slice_bounds-apply_edit-end-in-Edit : goal.slice_bounds-apply_edit-end-in-Edit
slice_bounds-apply_edit-end-in-Edit c = (read_edit (replicate {A = ℕ} 18_432 0) (replicate {A = ℕ} 4_608 0) (replicate {A = ℕ} 3_687 0) c.read.new.payload c.read.new.first c.read.new.second (frame_read c.args.line.now) (line-fits c.args.line.now c.requires.0 c.requires.1 (replicate {A = ℕ} 18_432 0) (replicate {A = ℕ} 4_608 0) (replicate {A = ℕ} 3_687 0) (zeros_roomy c.args.line.now c.requires.0 c.requires.1)) c.in-Edit.edit c.in-Edit.x c.in-Edit.f c.in-Edit.s (rw c.in-Edit.is at c.in_ok-frame.ensures)).1

pub slice_bounds-apply_edit-end-in-Edit-2 : goal.slice_bounds-apply_edit-end-in-Edit-2
slice_bounds-apply_edit-end-in-Edit-2 c = (read_edit (replicate {A = ℕ} 18_432 0) (replicate {A = ℕ} 4_608 0) (replicate {A = ℕ} 3_687 0) c.read.new.payload c.read.new.first c.read.new.second (frame_read c.args.line.now) (line-fits c.args.line.now c.requires.0 c.requires.1 (replicate {A = ℕ} 18_432 0) (replicate {A = ℕ} 4_608 0) (replicate {A = ℕ} 3_687 0) (zeros_roomy c.args.line.now c.requires.0 c.requires.1)) c.in-Edit.edit c.in-Edit.x c.in-Edit.f c.in-Edit.s (rw c.in-Edit.is at c.in_ok-frame.ensures)).2

pub returns-in-Edit : goal.returns-in-Edit
returns-in-Edit c = held-applied (frame_read c.args.line.now) c.args.view c.args.text.now c.args.outpayload.now c.args.outfirst.now c.args.outsecond.now c.in-Edit.edit c.read.new.payload c.in-Edit.x c.read.new.first c.in-Edit.f c.read.new.second c.in-Edit.s (read_edit (replicate {A = ℕ} 18_432 0) (replicate {A = ℕ} 4_608 0) (replicate {A = ℕ} 3_687 0) c.read.new.payload c.read.new.first c.read.new.second (frame_read c.args.line.now) (line-fits c.args.line.now c.requires.0 c.requires.1 (replicate {A = ℕ} 18_432 0) (replicate {A = ℕ} 4_608 0) (replicate {A = ℕ} 3_687 0) (zeros_roomy c.args.line.now c.requires.0 c.requires.1)) c.in-Edit.edit c.in-Edit.x c.in-Edit.f c.in-Edit.s (rw c.in-Edit.is at c.in_ok-frame.ensures)) _ c.apply_edit.ensures

pub returns-in_err-frame : goal.returns-in_err-frame
returns-in_err-frame c = let p = err_from_is_err_and c.from_residual.result c.from_residual.ensures.1 in rw (p.1, p.2) (refusal_applied (frame_read c.args.line.now) c.args.view c.args.text.now c.args.outpayload.now c.args.outfirst.now c.args.outsecond.now _ _ (read_refused (replicate {A = ℕ} 18_432 0) (replicate {A = ℕ} 4_608 0) (replicate {A = ℕ} 3_687 0) c.read.new.payload c.read.new.first c.read.new.second (frame_read c.args.line.now) (line-fits c.args.line.now c.requires.0 c.requires.1 (replicate {A = ℕ} 18_432 0) (replicate {A = ℕ} 4_608 0) (replicate {A = ℕ} 3_687 0) (zeros_roomy c.args.line.now c.requires.0 c.requires.1)) _ _ c.in_err-frame.ensures))

pub returns-in-Text : goal.returns-in-Text
returns-in-Text c = absurd (no_text (replicate {A = ℕ} 18_432 0) (replicate {A = ℕ} 4_608 0) (replicate {A = ℕ} 3_687 0) c.read.new.payload c.read.new.first c.read.new.second (frame_read c.args.line.now) (line-fits c.args.line.now c.requires.0 c.requires.1 (replicate {A = ℕ} 18_432 0) (replicate {A = ℕ} 4_608 0) (replicate {A = ℕ} 3_687 0) (zeros_roomy c.args.line.now c.requires.0 c.requires.1)) _ (rw c.in-Text.is at c.in_ok-frame.ensures))

pub returns-in-Mark : goal.returns-in-Mark
returns-in-Mark c = absurd (no_mark (replicate {A = ℕ} 18_432 0) (replicate {A = ℕ} 4_608 0) (replicate {A = ℕ} 3_687 0) c.read.new.payload c.read.new.first c.read.new.second (frame_read c.args.line.now) (line-fits c.args.line.now c.requires.0 c.requires.1 (replicate {A = ℕ} 18_432 0) (replicate {A = ℕ} 4_608 0) (replicate {A = ℕ} 3_687 0) (zeros_roomy c.args.line.now c.requires.0 c.requires.1)) _ (rw c.in-Mark.is at c.in_ok-frame.ensures))
