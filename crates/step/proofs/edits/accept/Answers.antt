use mathlib.Core.Path.{refl}
use Rattle.step.proofs.EditLeaves.{fronts_line, fronts_printed}
use Rattle.step.proofs.edits.accept.Goals as goal

pub print_inverse-printed-requires : goal.print_inverse-printed-requires
print_inverse-printed-requires c = let a = c.args in (c.requires.1, fronts_line a.done a.payload.now a.first.now a.second.now c.requires.5)

pub returns : goal.returns
returns c = let a = c.args in let h = fronts_printed a.done a.payload.now a.first.now a.second.now _ _ _ c.print_inverse-printed.ensures in (refl, c.copy_marks.ensures, h.0, h.1)
