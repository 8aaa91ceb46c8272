-- The examples, computed.
use mathlib.Core.Path.{refl}
use Rattle.edit.specs.Edits.{pieces}
use Rattle.frame.specs.Format.{chunk_bytes, column_bytes, edit_bytes, frame_bytes, width_bytes}
use Rattle.hexline.specs.Digits.{digit_of, hexed}
use Rattle.utf8.specs.Reading.{writing}
use Rattle.utf8.specs.Rfc3629.{octets}
use Rattle.printing.specs.Examples.{RuledOut}

pub ruled_out : RuledOut
unfolding pieces chunk_bytes column_bytes edit_bytes frame_bytes width_bytes digit_of hexed writing octets
ruled_out = record { a_text = refl; inverse = refl }
