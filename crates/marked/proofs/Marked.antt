-- The marked examples, computed.
use mathlib.Core.Path.{refl}
use mathlib.Core.List.{flatten}
use Rattle.utf8.specs.Rfc3629.{scalar, begins, taken, number, octets}
use Rattle.utf8.specs.Reading.{prepend, read_from, writing}
use Rattle.text.specs.Rows.{◌⊕◌, onto, lines, unlines, row_count, last_row, row_len, row_start, clamp, offset, end_of, in_text}
use Rattle.text.specs.Text.{admissible, all, text_ok, renewed}
use Rattle.edit.specs.Edits.{inserted, chars_deleted, line_from, line_to, lines_deleted, replaced, gap, join_row, join_cols, join_flags, put, put_all, pads_of, pieces, cut_all, chunks_of, any_flag, joined, unspace, split_first, split_row, split, block_inserted, chunks_deleted, range_deleted, edited_by}
use Rattle.edit.specs.Refusals.{sum, small_range, small_ok, few_rows, few_ok, payload_ok, within_first, within_all, within_ok, room_ok, record_ok, wide}
use Rattle.edit.specs.Call.{first_of, result_of, leaves, applied, range_undoable, is_undoable, undoable}
use Rattle.sorting.specs.Flat.{flat, sels}
use Rattle.sorting.specs.Sorting.{insert, sorted}
use Rattle.merge.specs.Merging.{collapsed, collapse}
use Rattle.merge.specs.Call.{leaves as merge_leaves, merged_in}
use Rattle.joins.specs.Turns.{gap_len}
use Rattle.after.specs.After.{after_insert, after_delete_char, start_cols, after_join}
use Rattle.shift.specs.Kinds.{shifted}
use Rattle.shift.specs.Call.{ordered_range, ordered_ok, position_shifted, sel_shifted}
use Rattle.hexline.specs.Digits.{is_digit, value_of, digit_of, hexed, unhexed, paired}
use Rattle.frame.specs.Numbers.{number_in}
use Rattle.frame.specs.Format.{edit_bytes, frame_bytes}
use Rattle.frame.specs.Forms.{mark_form, insert_form, form_by, line_form}
use Rattle.frame.specs.Reads.{ahead, contents, first_list, text_of, edit_of, read_form}
use Rattle.place.specs.Places.{placed, seen}
use Rattle.marking.specs.InOrder.{in_order}
use Rattle.marking.specs.MarkLines.{mark_line, mark_lines}
use Rattle.loading.specs.Loads.{loaded, framed_by}
use Rattle.step.specs.Steps.{carried, answered, ran, step, ending}
use Rattle.feed.specs.Scripts.{line_step, run}
use Rattle.marked.specs.Marked.{Marked}

pub marked : Marked
unfolding begins taken number octets prepend read_from writing ◌⊕◌ onto lines unlines row_count last_row row_len row_start clamp offset end_of in_text admissible all text_ok renewed scalar flatten inserted chars_deleted line_from line_to lines_deleted replaced gap join_row join_cols join_flags put put_all pads_of pieces cut_all chunks_of any_flag joined unspace split_first split_row split block_inserted chunks_deleted range_deleted edited_by sum small_range small_ok few_rows few_ok payload_ok within_first within_all within_ok room_ok record_ok wide first_of result_of leaves applied range_undoable is_undoable undoable flat sels insert sorted collapsed collapse merge_leaves merged_in gap_len after_insert after_delete_char start_cols after_join shifted ordered_range ordered_ok position_shifted sel_shifted is_digit value_of digit_of hexed unhexed paired number_in edit_bytes frame_bytes mark_form insert_form form_by line_form ahead contents first_list text_of edit_of read_form placed seen loaded in_order carried answered ran framed_by step mark_line mark_lines ending line_step run
marked = record {
  one = refl;
  two = refl;
  three = refl;
  four = refl;
  four_undoable = refl;
  five = refl;
  six = refl;
  seven = refl;
  eight = refl;
  nine = refl;
  ten = refl;
  ten_back = refl;
  eleven = refl;
  eleven_refused = refl;
  twelve = refl;
  thirteen = refl;
  fourteen = refl;
}
