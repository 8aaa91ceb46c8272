-- The examples, computed.
use mathlib.Core.Path.{refl}
use Rattle.text.specs.Text.{renewed}
use Rattle.splice.specs.Examples.{RuledOut}

pub ruled_out : RuledOut
unfolding renewed
ruled_out = record { opened = refl; removed = refl; removed_last = refl; closed = refl }
