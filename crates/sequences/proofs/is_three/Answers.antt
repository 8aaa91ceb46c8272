use Rattle.sequences.proofs.Tests.{three_test}
use Rattle.sequences.proofs.is_three.Goals as goal

pub returns : goal.returns
returns c = λ s. let a = c.args in rw (c.end_after-low.ensures, c.end_after-high.ensures) (three_test a.a a.b a.c s)
