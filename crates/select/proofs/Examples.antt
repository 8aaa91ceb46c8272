-- The examples, computed.
use mathlib.Core.Path.{refl}
use Rattle.select.specs.Selections.{block_span, char_span, line_span}
use Rattle.select.specs.Examples.{RuledOut}

pub ruled_out : RuledOut
unfolding block_span char_span line_span
ruled_out = record { made = refl; ends = refl; in_row = refl; in_column = refl; apart = refl; head = refl; anchor = refl; extends = refl; extends_block = refl; last_row = refl; wide = refl; below = refl; backward = refl }
