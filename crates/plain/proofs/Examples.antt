-- The examples, computed.
use mathlib.Core.Path.{refl}
use Rattle.plain.specs.Meanings.{item}
use Rattle.plain.specs.Examples.{RuledOut}

pub ruled_out : RuledOut
unfolding item
ruled_out = record { lines = refl; lines_told = refl; spaced = refl; payload = refl; fits = refl; too_big = refl; no_text = refl; no_room = refl; span = refl; rows = refl; line_ends = refl; view_kept = refl; view_told = refl; line_lists = refl; line_offset = refl }
