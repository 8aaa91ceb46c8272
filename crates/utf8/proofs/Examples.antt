-- The examples, computed.
use mathlib.Core.Path.{refl}
use Rattle.utf8.specs.Calls.{decoded, encoded, stored}
use Rattle.utf8.specs.Reading.{all_scalar, prepend, read_from, writing}
use Rattle.utf8.specs.Rfc3629.{begins, number, octets, scalar, taken}
use Rattle.utf8.specs.Examples.{RuledOut}

pub ruled_out : RuledOut
unfolding decoded encoded stored all_scalar prepend read_from writing begins number octets scalar taken
ruled_out = record { two = refl; two_last = refl; three = refl; four = refl; block = refl; full = refl; last = refl; written = refl; written_full = refl }
