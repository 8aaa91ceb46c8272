use Rattle.step.proofs.EditLeaves.{text-fits, apply_asked, bad_leaves, fine_leaves}
use Rattle.step.proofs.edits.run_frame.Goals as goal

pub slice_bounds-judge_admitted-end : goal.slice_bounds-judge_admitted-end
slice_bounds-judge_admitted-end c = let a = c.args in let p = c.requires in (text-fits a.script a.text.now a.marks.now p.0).0

pub judge_admitted-verdict-requires : goal.judge_admitted-verdict-requires
judge_admitted-verdict-requires c = let a = c.args in let p = c.requires in (text-fits a.script a.text.now a.marks.now p.0).1

pub apply_frame-requires : goal.apply_frame-requires
apply_frame-requires c = let a = c.args in let p = c.requires in let k = apply_asked a.script a.text.now a.marks.now p.0 a.edit _ a.payload.now a.first.now a.second.now c.in_order-ordered.ensures _ c.judge_admitted-verdict.ensures c.in-Ok.is in (p.0, p.1, k.0, k.1)

pub returns-in-Err : goal.returns-in-Err
returns-in-Err c = let a = c.args in let p = c.requires in bad_leaves a.script a.text.now a.marks.now p.0 a.edit _ a.payload.now a.first.now a.second.now c.in_order-ordered.ensures _ c.judge_admitted-verdict.ensures _ c.in-Err.is _ _ _ c.refuse.ensures

pub returns-in-Ok : goal.returns-in-Ok
returns-in-Ok c = let a = c.args in let p = c.requires in fine_leaves a.script a.text.now a.marks.now p.0 a.edit _ a.payload.now a.first.now a.second.now c.in_order-ordered.ensures c.judge_admitted-verdict.result c.judge_admitted-verdict.ensures _ _ c.apply_frame.ensures
