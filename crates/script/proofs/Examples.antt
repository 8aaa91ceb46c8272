-- The examples, computed.
use mathlib.Core.Path.{refl}
use mathlib.Core.List.{flatten}
use Rattle.after.specs.After.{after_delete_block, after_delete_block_chunks, after_delete_char, after_delete_lines, after_insert, after_insert_block, after_join, start_cols}
use Rattle.edit.specs.Call.{applied, first_of, is_undoable, leaves, range_undoable, result_of, undoable}
use Rattle.edit.specs.Edits.{any_flag, block_inserted, chars_deleted, chunks_deleted, chunks_of, cut_all, edited_by, gap, inserted, join_cols, join_flags, join_row, joined, line_from, line_to, lines_deleted, pads_of, pieces, put, put_all, range_deleted, replaced, split, split_first, split_row, unspace}
use Rattle.edit.specs.Refusals.{few_ok, few_rows, payload_ok, record_ok, room_ok, small_ok, small_range, sum, within_all, within_first, within_ok}
use Rattle.feed.specs.Scripts.{line_step, run}
use Rattle.frame.specs.Format.{chunk_bytes, column_bytes, edit_bytes, frame_bytes, width_bytes}
use Rattle.frame.specs.Forms.{before, block_form, block_of, chunks_form, columns_in, delete_form, flagged, flags_in, form_by, insert_form, join_form, kind_form, line_form, mark_form, pads_in, replace_form, split_form, strings_from, widths_in}
use Rattle.frame.specs.Numbers.{items, number_in}
use Rattle.frame.specs.Reads.{ahead, contents, edit_of, first_list, read_form, text_of}
use Rattle.hexline.specs.Digits.{digit_of, hexed, is_digit, paired, unhexed, value_of}
use Rattle.joins.specs.Turns.{gap_len}
use Rattle.loading.specs.Loads.{framed_by, loaded}
use Rattle.marking.specs.InOrder.{in_order}
use Rattle.marking.specs.MarkLines.{mark_line, mark_lines}
use Rattle.place.specs.Places.{placed, seen}
use Rattle.shift.specs.Call.{ordered_ok, ordered_range, sel_shifted}
use Rattle.shift.specs.Kinds.{after_delete, shifted}
use Rattle.step.specs.Steps.{answered, carried, ending, ran, step}
use Rattle.text.specs.Rows.{clamp, end_of, in_text, last_row, lines, offset, onto, row_count, row_len, row_start, unlines}
use Rattle.text.specs.Text.{admissible, all, renewed, text_ok}
use Rattle.utf8.specs.Calls.{stored}
use Rattle.utf8.specs.Reading.{prepend, read_from, writing}
use Rattle.utf8.specs.Rfc3629.{begins, number, octets, scalar, taken}
use Rattle.script.specs.Undo.{says_yes, script, starting, starts, texts_from, undo, undoable_from, yes}
use Rattle.script.specs.Examples.{RuledOut, TakenBack}

pub examples : RuledOut × TakenBack
unfolding flatten after_delete_block after_delete_block_chunks after_delete_char after_delete_lines after_insert after_insert_block after_join start_cols applied first_of leaves result_of any_flag block_inserted chars_deleted chunks_deleted chunks_of cut_all edited_by gap inserted join_cols join_flags join_row joined line_from line_to lines_deleted pads_of pieces put put_all range_deleted replaced split split_first split_row unspace few_ok few_rows payload_ok record_ok room_ok small_ok small_range sum within_all within_first within_ok chunk_bytes column_bytes edit_bytes frame_bytes width_bytes before block_form block_of chunks_form columns_in delete_form flagged flags_in form_by insert_form join_form kind_form line_form mark_form pads_in replace_form split_form strings_from widths_in items number_in ahead contents edit_of first_list read_form text_of digit_of hexed is_digit paired unhexed value_of gap_len framed_by loaded in_order mark_line mark_lines placed seen line_step run ordered_ok ordered_range sel_shifted after_delete shifted answered carried ending ran step clamp end_of in_text last_row lines offset onto row_count row_len row_start unlines admissible all renewed text_ok stored prepend read_from writing begins number octets scalar taken is_undoable range_undoable undoable says_yes script starting starts texts_from undo undoable_from yes
examples = (
  record { two_edits = refl; exact = refl; no_room = refl },
  record { undoable = refl; printed = refl; stages = refl; back = refl; empty_undoable = refl; empty_stages = refl; past_not = refl; past_stages = refl; past_back = refl },
)
