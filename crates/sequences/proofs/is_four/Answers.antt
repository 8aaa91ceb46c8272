use Rattle.sequences.proofs.Tests.{four_test}
use Rattle.sequences.proofs.is_four.Goals as goal

pub returns : goal.returns
returns c = λ s. let a = c.args in rw (c.end_after-low.ensures, c.end_after-high.ensures) (four_test a.a a.b a.c a.d s)
