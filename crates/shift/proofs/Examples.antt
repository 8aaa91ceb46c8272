-- The examples of specs/Examples.antt, computed.
use mathlib.Core.Path.{refl}
use Rattle.utf8.specs.Rfc3629.{scalar}
use Rattle.text.specs.Rows.{onto, lines, unlines, row_count, last_row, row_len, row_start, clamp, offset, end_of}
use Rattle.text.specs.Text.{admissible, all, text_ok}
use Rattle.edit.specs.Edits.{inserted, chars_deleted, line_from, line_to, lines_deleted, replaced, cut_all, chunks_deleted, range_deleted, edited_by}
use Rattle.edit.specs.Refusals.{sum, small_range, small_ok, few_rows, few_ok, payload_ok}
use Rattle.edit.specs.Call.{first_of}
use Rattle.joins.specs.Turns.{gap_len}
use Rattle.after.specs.After.{after_insert, after_delete_char, after_delete_lines, after_delete_block, start_cols, after_join, after_insert_block, after_delete_block_chunks}
use Rattle.shift.specs.Kinds.{after_delete, shifted}
use Rattle.shift.specs.Call.{ordered_range, ordered_ok, position_shifted, sel_shifted, carried_over}
use Rattle.shift.specs.Examples.{Examples, FirstRefusals, Moves}

pub examples : Examples
unfolding scalar onto lines row_count last_row row_len admissible all text_ok sum small_range small_ok few_rows few_ok payload_ok first_of gap_len after_insert after_delete_char after_delete_lines after_delete_block start_cols after_join after_insert_block after_delete_block_chunks after_delete shifted ordered_range ordered_ok position_shifted sel_shifted carried_over
examples = record {
  run = refl;
  run_back = refl;
  join_plain = refl;
  join_empty = refl;
  join_below = refl;
  cut_inside = refl;
  cut_end = refl;
  cut_below = refl;
  line_gone = refl;
  line_below = refl;
  block_left = refl;
  block_inside = refl;
  block_right = refl;
  replaced = refl;
  block_second = refl;
  block_below = refl;
  chunk_inside = refl;
  chunk_second = refl;
  split = refl;
  split_sel = refl;
  carried = refl;
  outside = refl;
}

pub first_refusals : FirstRefusals
unfolding scalar admissible all text_ok small_range small_ok few_rows few_ok payload_ok first_of ordered_range ordered_ok position_shifted sel_shifted carried_over
first_refusals = record {
  bad_text = refl;
  too_big = refl;
  too_many = refl;
  bad_payload = refl;
  reversed_replace = refl;
  reversed_char = refl;
  reversed_line = refl;
  head_too_big = refl;
  split_too_big = refl;
}

pub moves : Moves
unfolding scalar onto lines unlines row_count last_row row_len row_start clamp offset end_of admissible all text_ok small_range small_ok few_rows few_ok payload_ok first_of inserted chars_deleted line_from line_to lines_deleted replaced cut_all chunks_deleted range_deleted edited_by after_insert after_delete_char after_delete_lines after_delete_block after_delete shifted ordered_range ordered_ok position_shifted
moves = record {
  cut = refl;
  cut_unchanged = refl;
  same_letter = refl;
  same_unchanged = refl;
  empty_line = refl;
  empty_unchanged = refl;
  past_row = refl;
  past_unchanged = refl;
}
