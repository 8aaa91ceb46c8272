use Rattle.blocks.proofs.Putting.{Putting}
use Rattle.blocks.proofs.put_rows.Given as goal

abbrev pub invariant-loop-k : goal.invariant-loop-k
invariant-loop-k l = Putting l.initial.text l.used l.row l.col.0 l.payload l.lens l.initial.pads l.text l.pads l.long l.start l.from l.k
