-- The examples, computed.
use mathlib.Core.Path.{refl}
use Rattle.after.specs.After.{after_delete_block, after_delete_block_chunks, after_delete_char, after_delete_lines, after_insert, after_insert_block, after_join, start_cols}
use Rattle.edit.specs.Edits.{pieces}
use Rattle.frame.specs.Format.{chunk_bytes, column_bytes, edit_bytes, frame_bytes, width_bytes}
use Rattle.hexline.specs.Digits.{digit_of, hexed}
use Rattle.joins.specs.Turns.{gap_len}
use Rattle.marking.specs.Carries.{carried_mark}
use Rattle.marking.specs.Slots.{slot_of}
use Rattle.marking.specs.MarkLines.{mark_line}
use Rattle.shift.specs.Call.{carried_over}
use Rattle.shift.specs.Kinds.{after_delete, shifted}
use Rattle.text.specs.Rows.{last_row, lines, onto, row_count, row_len}
use Rattle.utf8.specs.Reading.{writing}
use Rattle.utf8.specs.Rfc3629.{octets}
use Rattle.marking.specs.Examples.{RuledOut}

pub ruled_out : RuledOut
unfolding after_delete_block after_delete_block_chunks after_delete_char after_delete_lines after_insert after_insert_block after_join start_cols pieces chunk_bytes column_bytes edit_bytes frame_bytes width_bytes digit_of hexed gap_len carried_mark slot_of mark_line carried_over after_delete shifted last_row lines onto row_count row_len writing octets
ruled_out = record { ends = refl; second = refl; drops = refl; lost = refl }
