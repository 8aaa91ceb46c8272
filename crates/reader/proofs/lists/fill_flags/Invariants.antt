use lib.ListN.{get_or}
use Rattle.reader.proofs.Gathers.{Gathered}
use Rattle.reader.proofs.lists.fill_flags.Given as goal

abbrev pub invariant-loop-i : goal.invariant-loop-i
invariant-loop-i l = Gathered 5 (λ b. get_or b 4 0) l.bytes l.initial.out l.i-iterator.iter.size l.i-iterator.count l.i-iterator.iter.rest.now l.out
