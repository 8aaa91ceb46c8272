-- The examples, computed.
use mathlib.Core.Path.{refl}
use mathlib.Core.List.{flatten}
use Rattle.frame.specs.Forms.{before, block_form, block_of, chunks_form, columns_in, delete_form, flagged, flags_in, form_by, insert_form, join_form, kind_form, line_form, mark_form, pads_in, replace_form, split_form, strings_from, widths_in}
use Rattle.frame.specs.Numbers.{items, number_in}
use Rattle.frame.specs.Reads.{ahead, contents, edit_of, first_list, read_form, text_of}
use Rattle.hexline.specs.Digits.{digit_of, hexed, is_digit, paired, unhexed, value_of}
use Rattle.reader.specs.Calls.{frame_into, read_into}
use Rattle.text.specs.Text.{all}
use Rattle.utf8.specs.Reading.{prepend, read_from}
use Rattle.utf8.specs.Rfc3629.{begins, number, taken}
use Rattle.reader.specs.Examples.{RuledOut}

pub ruled_out : RuledOut
unfolding flatten before block_form block_of chunks_form columns_in delete_form flagged flags_in form_by insert_form join_form kind_form line_form mark_form pads_in replace_form split_form strings_from widths_in items number_in ahead contents edit_of first_list read_form text_of digit_of hexed is_digit paired unhexed value_of frame_into read_into all prepend read_from begins number taken
ruled_out = record { insert = refl; split = refl; chunks = refl; block = refl; bad_string = refl; bad_chunk = refl; longest_short = refl }
