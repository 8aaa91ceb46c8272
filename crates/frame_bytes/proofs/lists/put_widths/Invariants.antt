use Rattle.frame_bytes.proofs.Listed.{Widened}
use Rattle.frame_bytes.proofs.lists.put_widths.Given as goal

abbrev pub invariant-loop-i : goal.invariant-loop-i
invariant-loop-i l = Widened l.widths l.pads l.initial.bytes l.bytes l.i-iterator.count l.i-iterator.iter.a.rest.now l.i-iterator.iter.b.rest.now
