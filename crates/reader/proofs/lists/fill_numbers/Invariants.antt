use Rattle.frame.specs.Numbers.{number_in}
use Rattle.reader.proofs.Gathers.{Gathered}
use Rattle.reader.proofs.lists.fill_numbers.Given as goal

abbrev pub invariant-loop-i : goal.invariant-loop-i
invariant-loop-i l = Gathered l.step (λ b. number_in b l.at) l.bytes l.initial.out l.i-iterator.iter.size l.i-iterator.count l.i-iterator.iter.rest.now l.out
