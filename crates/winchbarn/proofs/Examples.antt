-- The examples, computed.
use mathlib.Core.Path.{refl}
use mathlib.Core.List.{flatten}
use Rattle.after.specs.After.{after_delete_block, after_delete_block_chunks, after_delete_char, after_delete_lines, after_insert, after_insert_block, after_join, start_cols}
use Rattle.edit.specs.Call.{applied, first_of, is_undoable, leaves, range_undoable, result_of, undoable}
use Rattle.edit.specs.Edits.{any_flag, block_inserted, chars_deleted, chunks_deleted, chunks_of, cut_all, edited_by, gap, inserted, join_cols, join_flags, join_row, joined, line_from, line_to, lines_deleted, pads_of, pieces, put, put_all, range_deleted, replaced, split, split_first, split_row, unspace}
use Rattle.edit.specs.Refusals.{few_ok, few_rows, payload_ok, record_ok, room_ok, small_ok, small_range, sum, wide, within_all, within_first, within_ok}
use Rattle.feed.specs.Scripts.{line_step, run}
use Rattle.cells.specs.Wide.{is_wide, wide_in}
use Rattle.cells.specs.Cells.{tab_stop, cell_after, first_outside_from}
use Rattle.fit.specs.Calls.{row_or, first_over, fits_in}
use Rattle.frame.specs.Format.{chunk_bytes, column_bytes, edit_bytes, edit_chars, frame_bytes, frame_chars, has_bytes, has_frame, width_bytes}
use Rattle.frame.specs.Forms.{before, block_form, block_of, chunks_form, columns_in, delete_form, flagged, flags_in, form_by, insert_form, join_form, kind_form, line_form, mark_form, head_of, pads_in, replace_form, split_form, strings_from, widths_in}
use Rattle.frame.specs.Numbers.{items, number_in}
use Rattle.frame.specs.Reads.{ahead, contents, edit_of, first_list, read_form, text_of}
use Rattle.frame.specs.Writes.{line_of}
use Rattle.framed.specs.Calls.{frame_applied}
use Rattle.hexline.specs.Digits.{digit_of, hexed, is_digit, paired, unhexed, value_of}
use Rattle.joins.specs.Turns.{gap_len}
use Rattle.loading.specs.Loads.{framed_by, loaded}
use Rattle.marking.specs.InOrder.{in_order}
use Rattle.marking.specs.MarkLines.{mark_line, mark_lines}
use Rattle.merge.specs.Call.{leaves as leaves-merge, merged_in}
use Rattle.merge.specs.Merging.{collapse, collapsed}
use Rattle.place.specs.Places.{placed, seen}
use Rattle.plain.specs.Meanings.{item}
use Rattle.select.specs.Selections.{block_span, char_span, line_span}
use Rattle.shift.specs.Call.{ordered_ok, ordered_range, position_shifted, sel_shifted}
use Rattle.shift.specs.Kinds.{after_delete, shifted}
use Rattle.sorting.specs.Flat.{flat, sels}
use Rattle.sorting.specs.Sorting.{insert, sorted}
use Rattle.step.specs.Steps.{answered, carried, ending, ran, step}
use Rattle.text.specs.Rows.{clamp, end_of, in_text, last_row, lines, offset, onto, row_count, row_len, row_start, unlines}
use Rattle.text.specs.Text.{admissible, all, renewed, text_ok}
use Rattle.reader.specs.Calls.{chars_into, frame_into, read_into}
use Rattle.asked.specs.Calls.{text_into, edit_into}
use Rattle.utf8.specs.Calls.{decoded, encoded, stored}
use Rattle.utf8.specs.Reading.{all_scalar, prepend, read_from, writing}
use Rattle.utf8.specs.Rfc3629.{begins, number, octets, scalar, taken}
use Rattle.writer.specs.Calls.{line_into}
use Rattle.winchbarn.specs.Examples.{RuledOut}

pub ruled_out : RuledOut
unfolding flatten after_delete_block after_delete_block_chunks after_delete_char after_delete_lines after_insert after_insert_block after_join start_cols applied first_of is_undoable leaves range_undoable result_of undoable any_flag block_inserted chars_deleted chunks_deleted chunks_of cut_all edited_by gap inserted join_cols join_flags join_row joined line_from line_to lines_deleted pads_of pieces put put_all range_deleted replaced split split_first split_row unspace few_ok few_rows payload_ok record_ok room_ok small_ok small_range sum wide within_all within_first within_ok is_wide wide_in tab_stop cell_after first_outside_from row_or first_over fits_in chunk_bytes column_bytes edit_bytes edit_chars frame_bytes frame_chars has_bytes has_frame width_bytes before block_form block_of chunks_form columns_in delete_form flagged flags_in form_by insert_form join_form kind_form line_form mark_form head_of pads_in replace_form split_form strings_from widths_in items number_in ahead contents edit_of first_list read_form text_of line_of frame_applied digit_of hexed is_digit paired unhexed value_of gap_len framed_by loaded in_order mark_line mark_lines leaves-merge merged_in collapse collapsed placed seen item line_step run block_span char_span line_span ordered_ok ordered_range position_shifted sel_shifted after_delete shifted flat sels insert sorted answered carried ending ran step clamp end_of in_text last_row lines offset onto row_count row_len row_start unlines admissible all renewed text_ok decoded encoded stored all_scalar prepend read_from writing begins number octets scalar taken line_into chars_into frame_into read_into text_into edit_into
ruled_out = record { run_script = refl; apply_edit = refl; apply_frame = refl; apply_edit_in = refl; apply_edit_in_kept = refl; write_edit = refl; write_text = refl; write_mark = refl; read_edit = refl; read_edit_bad = refl; read_text = refl; read_mark = refl; undoable = refl; undoable_kind = refl; set_cursor = refl; clamp_position = refl; box_fit = refl; box_tab = refl; shift_position = refl; shift_sel = refl; merge_overlapping = refl; sel_caret = refl; sel_is_caret = refl; sel_start = refl; sel_end = refl; sel_overlaps = refl; selection_head = refl; selection_anchor = refl; selection_extend_to = refl; selection_row_bounds = refl; selection_no_kind = refl; row_span = refl; decode = refl; encode = refl }
