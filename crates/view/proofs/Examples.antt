-- The examples, computed.
use mathlib.Core.Path.{refl}
use Rattle.edit.specs.Call.{first_of, is_undoable, range_undoable, undoable}
use Rattle.edit.specs.Refusals.{few_ok, few_rows, payload_ok, small_ok, small_range, sum, wide}
use Rattle.text.specs.Rows.{clamp, in_text, last_row, lines, onto, row_count, row_len}
use Rattle.text.specs.Text.{admissible, all, text_ok}
use Rattle.utf8.specs.Rfc3629.{scalar}
use Rattle.view.specs.Examples.{RuledOut}

pub ruled_out : RuledOut
unfolding first_of is_undoable range_undoable undoable few_ok few_rows payload_ok small_ok small_range sum wide clamp in_text last_row lines onto row_count row_len admissible all text_ok scalar
ruled_out = record { no_text = refl; cursor = refl; says_yes = refl; split = refl; lines = refl; replace = refl; last_row = refl; just_wide = refl; second_row = refl; left = refl }
