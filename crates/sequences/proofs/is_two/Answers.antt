use Rattle.sequences.proofs.Tests.{two_test}
use Rattle.sequences.proofs.is_two.Goals as goal

pub returns : goal.returns
returns c = λ s. two_test c.args.a c.args.b s
