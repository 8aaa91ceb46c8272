-- The examples, computed.
use mathlib.Core.Path.{refl}
use Rattle.told.specs.Examples.{RuledOut}

pub ruled_out : RuledOut
ruled_out = record { digits = refl; selections = refl; no_room = refl; lost_place = refl; lost = refl; no_mark = refl; written = refl }
