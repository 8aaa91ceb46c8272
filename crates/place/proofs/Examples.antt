-- The examples, computed.
use mathlib.Core.Path.{refl}
use Rattle.frame.specs.Forms.{before, block_form, block_of, chunks_form, columns_in, delete_form, flagged, flags_in, form_by, head_of, insert_form, join_form, kind_form, line_form, mark_form, pads_in, replace_form, split_form, strings_from, widths_in}
use Rattle.frame.specs.Numbers.{items, number_in}
use Rattle.hexline.specs.Digits.{digit_of, hexed, is_digit, paired, unhexed, value_of}
use Rattle.place.specs.Places.{placed, seen}
use Rattle.text.specs.Rows.{clamp, in_text, last_row, lines, onto, row_count, row_len}
use Rattle.text.specs.Text.{all}
use Rattle.place.specs.Examples.{RuledOut}

pub ruled_out : RuledOut
unfolding before block_form block_of chunks_form columns_in delete_form flagged flags_in form_by head_of insert_form join_form kind_form line_form mark_form pads_in replace_form split_form strings_from widths_in items number_in digit_of hexed is_digit paired unhexed value_of placed seen clamp in_text last_row lines onto row_count row_len all
ruled_out = record { head = refl; after_edit = refl; second_edit = refl; uncounted = refl; sound = refl; edited = refl; longest_short = refl }
