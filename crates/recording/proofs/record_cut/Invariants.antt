use Rattle.recording.proofs.Cutting.{Cutting}
use Rattle.recording.proofs.record_cut.Given as goal

abbrev pub invariant-loop-i : goal.invariant-loop-i
invariant-loop-i l = Cutting l.text l.steps l.initial.out l.out l.n l.next l.done l.i
