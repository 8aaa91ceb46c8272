-- The examples, computed.
use mathlib.Core.Path.{refl}
use Rattle.text.specs.Text.{renewed}
use Rattle.steps.specs.Steps.{woven}
use Rattle.steps.specs.Numbers.{steps_of}
use Rattle.weave.specs.Examples.{RuledOut}

pub ruled_out : RuledOut
unfolding renewed woven steps_of
ruled_out = record { ways = refl; made = refl; cleared = refl; none = refl }
