use mathlib.Core.Path.{refl}
use Rattle.utf8.specs.Rfc3629.{scalar}
use Rattle.encoding.proofs.is_scalar.Goals as goal

pub returns : goal.returns
unfolding scalar
returns c = refl
