use Rattle.frame_bytes.proofs.Listed.{Columned}
use Rattle.frame_bytes.proofs.lists.put_columns.Given as goal

abbrev pub invariant-loop-i : goal.invariant-loop-i
invariant-loop-i l = Columned l.cols l.flags l.initial.bytes l.bytes l.i-iterator.count l.i-iterator.iter.a.rest.now l.i-iterator.iter.b.rest.now
