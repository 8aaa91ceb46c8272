-- The examples, computed.
use mathlib.Core.Path.{refl}
use Rattle.hexline.specs.Digits.{digit_of, hexed}
use Rattle.loading.specs.Loads.{framed_by, loaded}
use Rattle.text.specs.Text.{admissible, all}
use Rattle.utf8.specs.Rfc3629.{scalar}
use Rattle.loading.specs.Examples.{RuledOut}

pub ruled_out : RuledOut
unfolding digit_of hexed framed_by loaded admissible all scalar
ruled_out = record { full = refl; inadmissible = refl; bad_utf8 = refl; second = refl }
