-- The examples, computed.
use mathlib.Core.Path.{refl}
use mathlib.Core.List.{flatten}
use Rattle.edit.specs.Call.{applied, first_of, leaves, result_of}
use Rattle.edit.specs.Edits.{any_flag, block_inserted, chars_deleted, chunks_deleted, chunks_of, cut_all, edited_by, gap, inserted, join_cols, join_flags, join_row, joined, line_from, line_to, lines_deleted, pads_of, pieces, put, put_all, range_deleted, replaced, split, split_first, split_row, unspace}
use Rattle.edit.specs.Refusals.{few_ok, few_rows, payload_ok, record_ok, room_ok, small_ok, small_range, sum, within_all, within_first, within_ok}
use Rattle.frame.specs.Forms.{before, block_form, block_of, chunks_form, columns_in, delete_form, flagged, flags_in, form_by, insert_form, join_form, kind_form, line_form, mark_form, pads_in, replace_form, split_form, strings_from, widths_in}
use Rattle.frame.specs.Numbers.{items, number_in}
use Rattle.frame.specs.Reads.{ahead, contents, edit_of, first_list, read_form, text_of}
use Rattle.framed.specs.Calls.{frame_applied}
use Rattle.hexline.specs.Digits.{digit_of, hexed, is_digit, paired, unhexed, value_of}
use Rattle.place.specs.Places.{placed}
use Rattle.text.specs.Rows.{clamp, end_of, in_text, last_row, lines, offset, onto, row_count, row_len, row_start, unlines}
use Rattle.text.specs.Text.{admissible, all, renewed, text_ok}
use Rattle.utf8.specs.Reading.{prepend, read_from}
use Rattle.utf8.specs.Rfc3629.{begins, number, scalar, taken}
use Rattle.framed.specs.Examples.{RuledOut}

pub ruled_out : RuledOut
unfolding flatten applied first_of leaves result_of any_flag block_inserted chars_deleted chunks_deleted chunks_of cut_all edited_by gap inserted join_cols join_flags join_row joined line_from line_to lines_deleted pads_of pieces put put_all range_deleted replaced split split_first split_row unspace few_ok few_rows payload_ok record_ok room_ok small_ok small_range sum within_all within_first within_ok before block_form block_of chunks_form columns_in delete_form flagged flags_in form_by insert_form join_form kind_form line_form mark_form pads_in replace_form split_form strings_from widths_in items number_in ahead contents edit_of first_list read_form text_of frame_applied digit_of hexed is_digit paired unhexed value_of placed clamp end_of in_text last_row lines offset onto row_count row_len row_start unlines admissible all renewed text_ok prepend read_from begins number scalar taken
ruled_out = record { a_mark = refl; malformed = refl }
