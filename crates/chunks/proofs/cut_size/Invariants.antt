use Rattle.chunks.proofs.Cuts.{Sizing}
use Rattle.chunks.proofs.cut_size.Given as goal

abbrev pub invariant-loop-k : goal.invariant-loop-k
invariant-loop-k l = Sizing l.text l.row l.col.0 l.widths l.pads l.gone l.payload l.start l.end l.k
