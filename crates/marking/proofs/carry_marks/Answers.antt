use Rattle.std.proofs.Common.{arith}
use Rattle.marking.proofs.Carrying.{one_through}
use Rattle.marking.proofs.carry_marks.Goals as goal

pub loop-mark-preserved : goal.loop-mark-preserved
loop-mark-preserved c = let l = c.loop-mark in one_through _ _ l.mark-index l.marks _ _ l.invariant (omega arith) (omega arith) c.carry_mark.ensures
