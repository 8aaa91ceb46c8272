use Rattle.std.proofs.Common.{arith}
use Rattle.marking.specs.Carries.{carried_mark}
use Rattle.marking.proofs.Carrying.{copy_carried}
use Rattle.marking.proofs.carry_copy.Goals as goal

pub returns : goal.returns
returns c = let a = c.args in let p = c.requires in copy_carried (carried_mark a.text.now a.edit a.payload.now a.first.now) a.marks.now a.count _ _ (omega (arith, p.4, p.5)) c.copy_marks.ensures c.carry_marks.ensures
