-- The examples, computed.
use mathlib.Core.Path.{refl}
use Rattle.hexline.specs.Calls.{bytes_into, digits_into}
use Rattle.hexline.specs.Digits.{digit_of, hexed, is_digit, paired, unhexed, value_of}
use Rattle.utf8.specs.Calls.{stored}
use Rattle.hexline.specs.Examples.{RuledOut}

pub ruled_out : RuledOut
unfolding bytes_into digits_into digit_of hexed is_digit paired unhexed value_of stored
ruled_out = record { read = refl; written = refl; long = refl }
