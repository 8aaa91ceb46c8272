use lib.ListN.{length-take, length-drop}
use Rattle.text.proofs.Texts.{text-true}
use Rattle.step.proofs.Stepping.{text_head, mark_room, edit_ready, edit_head, malformed_left, text-left, mark_left, edit_left, still_ready}
use native.Mathlib.Omega.{arith}
use Rattle.step.proofs.step.Goals as goal

pub slice_bounds-judge-end : goal.slice_bounds-judge-end
slice_bounds-judge-end c = (text-true c.args.text.now c.args.script.view.used c.requires.0.admitted).0

pub judge-head-requires : goal.judge-head-requires
judge-head-requires c = let g = text-true c.args.text.now c.args.script.view.used c.requires.0.admitted in simp (length-take, length-drop) (omega arith)

pub seen-requires : goal.seen-requires
seen-requires c = c.requires.0.few

pub step_text-requires : goal.step_text-requires
step_text-requires c = let a = c.args in let j = c.judge-head in let v = c.seen in let p = c.requires in (omega arith, text_head a.script a.text.now a.marks.now a.line.now p.0 j.result j.ensures v.result v.ensures c.in-Text.is)

pub keep_mark-requires : goal.keep_mark-requires
keep_mark-requires c = let a = c.args in let j = c.judge-head in let v = c.seen in let p = c.requires in mark_room a.script a.text.now a.marks.now a.line.now p.0 j.result j.ensures v.result v.ensures _ c.in-Mark.is

pub step_edit-requires : goal.step_edit-requires
step_edit-requires c = let a = c.args in let j = c.judge-head in let v = c.seen in let p = c.requires in (edit_ready a.script a.text.now a.marks.now a.line.now p.0 j.result j.ensures v.result v.ensures _ c.in-Edit.is, p.1, edit_head a.script a.text.now a.marks.now a.line.now p.0 j.result j.ensures v.result v.ensures _ c.in-Edit.is)

pub returns-in-Malformed : goal.returns-in-Malformed
returns-in-Malformed c = let a = c.args in let j = c.judge-head in let v = c.seen in let p = c.requires in let f = c.refuse.ensures in let d = malformed_left a.script a.text.now a.marks.now a.line.now p.0 j.result j.ensures v.result v.ensures _ a.out.now _ c.in-Malformed.is f.0 f.1 f.2 in record { out_after = d; ready = still_ready a.script a.text.now a.marks.now a.line.now p.0 j.result j.ensures v.result v.ensures _ _ _ _ a.out.now d }

pub returns-in-Text : goal.returns-in-Text
returns-in-Text c = let a = c.args in let j = c.judge-head in let v = c.seen in let p = c.requires in let f = c.step_text.ensures in let d = text-left a.script a.text.now a.marks.now a.line.now p.0 j.result j.ensures v.result v.ensures _ a.out.now _ _ c.in-Text.is f in record { out_after = d; ready = still_ready a.script a.text.now a.marks.now a.line.now p.0 j.result j.ensures v.result v.ensures _ _ _ _ a.out.now d }

pub returns-in-Mark : goal.returns-in-Mark
returns-in-Mark c = let a = c.args in let j = c.judge-head in let v = c.seen in let p = c.requires in let f = c.keep_mark.ensures in let d = mark_left a.script a.text.now a.marks.now a.line.now p.0 j.result j.ensures v.result v.ensures _ a.out.now _ c.in-Mark.is _ f.0 f.1 f.2 in record { out_after = d; ready = still_ready a.script a.text.now a.marks.now a.line.now p.0 j.result j.ensures v.result v.ensures _ _ _ _ a.out.now d }

pub returns-in-Edit : goal.returns-in-Edit
returns-in-Edit c = let a = c.args in let j = c.judge-head in let v = c.seen in let p = c.requires in let f = c.step_edit.ensures in let d = edit_left a.script a.text.now a.marks.now a.line.now p.0 j.result j.ensures v.result v.ensures _ a.out.now _ c.in-Edit.is _ _ _ f in record { out_after = d; ready = still_ready a.script a.text.now a.marks.now a.line.now p.0 j.result j.ensures v.result v.ensures _ _ _ _ a.out.now d }
