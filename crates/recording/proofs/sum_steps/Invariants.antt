use Rattle.recording.proofs.Totals.{Totals}
use Rattle.recording.proofs.sum_steps.Given as goal

abbrev pub invariant-loop-i : goal.invariant-loop-i
invariant-loop-i l = Totals l.text l.steps l.payload l.n l.made l.laid l.cut l.going l.coming l.next l.taken l.i
