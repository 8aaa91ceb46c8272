use mathlib.Core.Path.{refl}
use Rattle.text.specs.Text.{admissible}
use Rattle.utf8.specs.Rfc3629.{scalar}
use Rattle.text.proofs.admit.is_admissible.Goals as goal

pub returns : goal.returns
unfolding admissible scalar
returns c = refl
