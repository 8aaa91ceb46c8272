-- The examples, computed.
use mathlib.Core.Path.{refl}
use Rattle.text.specs.Rows.{clamp, in_text, last_row, lines, offset, onto, row_count, row_len, row_start, span, unlines}
use Rattle.text.specs.Text.{admissible, all, text_ok}
use Rattle.utf8.specs.Rfc3629.{scalar}
use Rattle.text.specs.Examples.{RuledOut}

pub ruled_out : RuledOut
unfolding clamp in_text last_row lines offset onto row_count row_len row_start span unlines admissible all text_ok scalar
ruled_out = record { admitted = refl; past_buffer = refl; itself = refl; first = refl; second = refl; last = refl; rows = refl; length = refl; passed = refl; seam = refl; found = refl; found_last = refl; stays = refl; clamped = refl; counted = refl; past_row = refl; past_last = refl }
