use mathlib.Core.Path.{refl}
use Rattle.edit.specs.Edits.{whole}
use Rattle.step.proofs.EditLeaves.{text-fits, carry_asked, carried-over}
use Rattle.step.proofs.edits.apply_frame.Goals as goal

pub slice_bounds-carry_copy-end : goal.slice_bounds-carry_copy-end
slice_bounds-carry_copy-end c = let a = c.args in let p = c.requires in (text-fits a.script a.text.now a.marks.now p.0).0

pub carry_copy-requires : goal.carry_copy-requires
carry_copy-requires c = let a = c.args in let p = c.requires in let k = carry_asked a.script a.text.now a.marks.now p.0 (whole a.edit a.payload.now a.first.now a.second.now) p.3 in ((text-fits a.script a.text.now a.marks.now p.0).1, k.0, k.1, p.2, p.0.few, p.0.room, refl)

pub apply_moved-requires : goal.apply_moved-requires
apply_moved-requires c = let a = c.args in let p = c.requires in (p.0, p.1, p.3, carried-over a.script a.text.now a.marks.now p.0 (whole a.edit a.payload.now a.first.now a.second.now) p.3 p.2 _ c.carry_copy.ensures)

pub returns : goal.returns
returns c = c.apply_moved.ensures
