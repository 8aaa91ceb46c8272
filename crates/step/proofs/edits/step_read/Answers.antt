use Rattle.reader.proofs.EditLines.{line-fits, read_edit, read_refused, no_text, no_mark}
use Rattle.frame.specs.Reads.{frame_read}
use Rattle.step.proofs.EditLeaves.{edit_leaves, line-leaves}
use borrow.Author.Rules.{rules}
use Rattle.step.proofs.edits.step_read.Goals as goal

pub slice_bounds-run_frame-end : goal.slice_bounds-run_frame-end
slice_bounds-run_frame-end c = let a = c.args in let p = c.requires in (read_edit a.payload.now a.first.now a.second.now _ _ _ (frame_read a.line.now) (line-fits a.line.now p.2.0 p.2.1 _ _ _ p.3) c.in-Ok-Edit.edit c.in-Ok-Edit.x c.in-Ok-Edit.f c.in-Ok-Edit.s (rw c.in-Ok-Edit.field-0-is at c.in-Ok-Edit.ensures)).0

pub slice_bounds-run_frame-end-in-Ok-Edit : goal.slice_bounds-run_frame-end-in-Ok-Edit
slice_bounds-run_frame-end-in-Ok-Edit c = let a = c.args in let p = c.requires in (read_edit a.payload.now a.first.now a.second.now _ _ _ (frame_read a.line.now) (line-fits a.line.now p.2.0 p.2.1 _ _ _ p.3) c.in-Ok-Edit.edit c.in-Ok-Edit.x c.in-Ok-Edit.f c.in-Ok-Edit.s (rw c.in-Ok-Edit.field-0-is at c.in-Ok-Edit.ensures)).1

pub slice_bounds-run_frame-end-in-Ok-Edit-2 : goal.slice_bounds-run_frame-end-in-Ok-Edit-2
slice_bounds-run_frame-end-in-Ok-Edit-2 c = let a = c.args in let p = c.requires in (read_edit a.payload.now a.first.now a.second.now _ _ _ (frame_read a.line.now) (line-fits a.line.now p.2.0 p.2.1 _ _ _ p.3) c.in-Ok-Edit.edit c.in-Ok-Edit.x c.in-Ok-Edit.f c.in-Ok-Edit.s (rw c.in-Ok-Edit.field-0-is at c.in-Ok-Edit.ensures)).2

pub shape_of-payload-in-Ok-Edit : goal.shape_of-payload-in-Ok-Edit
shape_of-payload-in-Ok-Edit c = search (rules, c.payload-1.given)

pub shape_of-first-in-Ok-Edit : goal.shape_of-first-in-Ok-Edit
shape_of-first-in-Ok-Edit c = search (rules, c.first-1.given)

pub returns-in-Ok-Edit : goal.returns-in-Ok-Edit
returns-in-Ok-Edit c = let a = c.args in let p = c.requires in edit_leaves a.script a.text.now a.marks.now p.0 (frame_read a.line.now) c.in-Ok-Edit.edit _ c.in-Ok-Edit.x _ c.in-Ok-Edit.f _ c.in-Ok-Edit.s (read_edit a.payload.now a.first.now a.second.now _ _ _ (frame_read a.line.now) (line-fits a.line.now p.2.0 p.2.1 _ _ _ p.3) c.in-Ok-Edit.edit c.in-Ok-Edit.x c.in-Ok-Edit.f c.in-Ok-Edit.s (rw c.in-Ok-Edit.field-0-is at c.in-Ok-Edit.ensures)) _ _ c.run_frame.ensures

pub returns-in-Err : goal.returns-in-Err
returns-in-Err c = let a = c.args in let p = c.requires in line-leaves a.script a.text.now a.marks.now p.0 (frame_read a.line.now) _ _ (read_refused a.payload.now a.first.now a.second.now _ _ _ (frame_read a.line.now) (line-fits a.line.now p.2.0 p.2.1 _ _ _ p.3) _ _ c.in-Err.ensures) _ _ _ c.refuse-in-Err.ensures

pub returns-in-Ok-Text : goal.returns-in-Ok-Text
returns-in-Ok-Text c = let a = c.args in let p = c.requires in absurd (no_text a.payload.now a.first.now a.second.now _ _ _ (frame_read a.line.now) (line-fits a.line.now p.2.0 p.2.1 _ _ _ p.3) _ (rw c.in-Ok-Text.field-0-is at c.in-Ok-Text.ensures))

pub returns-in-Ok-Mark : goal.returns-in-Ok-Mark
returns-in-Ok-Mark c = let a = c.args in let p = c.requires in absurd (no_mark a.payload.now a.first.now a.second.now _ _ _ (frame_read a.line.now) (line-fits a.line.now p.2.0 p.2.1 _ _ _ p.3) _ (rw c.in-Ok-Mark.field-0-is at c.in-Ok-Mark.ensures))
