-- The examples, computed.
use mathlib.Core.Path.{refl}
use Rattle.edit.specs.Edits.{pieces}
use Rattle.edit.specs.Refusals.{sum}
use Rattle.frame.specs.Format.{chunk_bytes, column_bytes, edit_bytes, edit_chars, frame_bytes, frame_chars, has_bytes, has_frame, width_bytes}
use Rattle.frame.specs.Writes.{line_of}
use Rattle.hexline.specs.Digits.{digit_of, hexed}
use Rattle.text.specs.Text.{all}
use Rattle.utf8.specs.Calls.{stored}
use Rattle.utf8.specs.Reading.{all_scalar, writing}
use Rattle.utf8.specs.Rfc3629.{octets, scalar}
use Rattle.writer.specs.Calls.{line_into}
use Rattle.writer.specs.Examples.{RuledOut}

pub ruled_out : RuledOut
unfolding pieces sum chunk_bytes column_bytes edit_bytes edit_chars frame_bytes frame_chars has_bytes has_frame width_bytes line_of digit_of hexed all stored all_scalar writing octets scalar line_into
ruled_out = record { a_text = refl; a_mark = refl; pads = refl }
