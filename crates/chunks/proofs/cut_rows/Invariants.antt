use Rattle.chunks.proofs.Cutting.{Cutting}
use Rattle.chunks.proofs.cut_rows.Given as goal

abbrev pub invariant-loop-k : goal.invariant-loop-k
invariant-loop-k l = Cutting l.initial.text l.used l.row l.col.0 l.widths l.pads l.initial.out l.initial.lens l.text l.out l.lens l.long l.start l.filled l.k
