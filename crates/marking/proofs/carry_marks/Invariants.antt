use Rattle.marking.specs.Carries.{carried_mark}
use Rattle.marking.proofs.Carrying.{Through}
use Rattle.marking.proofs.carry_marks.Given as goal

abbrev pub invariant-loop-mark : goal.invariant-loop-mark
invariant-loop-mark l = Through (carried_mark l.text l.edit l.payload l.first) l.initial.marks l.mark-index l.marks
