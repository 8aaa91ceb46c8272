-- The examples, computed.
use mathlib.Core.Path.{refl}
use Rattle.after.specs.After.{after_delete_block, after_delete_block_chunks, after_delete_char, after_delete_lines, after_insert, after_join, start_cols}
use Rattle.joins.specs.Turns.{gap_len}
use Rattle.text.specs.Rows.{last_row, lines, onto, row_count, row_len}
use Rattle.after.specs.Examples.{RuledOut}

pub ruled_out : RuledOut
unfolding after_delete_block after_delete_block_chunks after_delete_char after_delete_lines after_insert after_join start_cols gap_len last_row lines onto row_count row_len
ruled_out = record { insert = refl; insert_break = refl; cut = refl; cut_below = refl; line = refl; block = refl; chunk = refl; join = refl; join_below = refl }
