-- The examples, computed.
use mathlib.Core.Path.{refl}
use mathlib.Core.List.{flatten}
use Rattle.frame.specs.Forms.{form_by, head_of, insert_form, line_form, mark_form}
use Rattle.frame.specs.Numbers.{number_in}
use Rattle.frame.specs.Reads.{ahead, contents, edit_of, first_list}
use Rattle.hexline.specs.Digits.{digit_of, hexed, is_digit, paired, unhexed, value_of}
use Rattle.reader.specs.Calls.{chars_into, frame_into, read_into}
use Rattle.text.specs.Text.{all}
use Rattle.utf8.specs.Calls.{stored}
use Rattle.utf8.specs.Reading.{prepend, read_from}
use Rattle.utf8.specs.Rfc3629.{begins, number, taken}
use Rattle.asked.specs.Calls.{text_into, edit_into}
use Rattle.asked.specs.Examples.{RuledOut}

pub ruled_out : RuledOut
unfolding flatten form_by head_of insert_form line_form mark_form number_in ahead contents edit_of first_list digit_of hexed is_digit paired unhexed value_of chars_into frame_into read_into all stored prepend read_from begins number taken text_into edit_into
ruled_out = record { no_text = refl; no_text_bad = refl; chars = refl; bad = refl; no_mark = refl; mark = refl; no_edit = refl; an_edit = refl }
