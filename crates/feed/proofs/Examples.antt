-- The examples, computed.
use mathlib.Core.Path.{refl}
use mathlib.Core.List.{flatten}
use Rattle.utf8.specs.Rfc3629.{begins, number, octets, scalar, taken}
use Rattle.utf8.specs.Reading.{prepend, read_from, writing}
use Rattle.text.specs.Rows.{lines, onto}
use Rattle.text.specs.Text.{admissible, all}
use Rattle.hexline.specs.Digits.{digit_of, hexed, is_digit, paired, unhexed, value_of}
use Rattle.frame.specs.Format.{frame_bytes}
use Rattle.frame.specs.Forms.{form_by, line_form}
use Rattle.frame.specs.Reads.{ahead, contents, read_form, text_of}
use Rattle.place.specs.Places.{placed, seen}
use Rattle.marking.specs.MarkLines.{mark_lines}
use Rattle.loading.specs.Loads.{framed_by, loaded}
use Rattle.step.specs.Steps.{ending, step}
use Rattle.feed.specs.Scripts.{line_step, run}
use Rattle.feed.specs.Feeds.{fed_byte, fed_by, fed_pieces}
use Rattle.feed.specs.Examples.{RuledOut}

pub ruled_out : RuledOut
unfolding flatten begins number octets scalar taken prepend read_from writing lines onto admissible all digit_of hexed is_digit paired unhexed value_of frame_bytes form_by line_form ahead contents read_form text_of placed seen mark_lines framed_by loaded ending step line_step run fed_byte fed_by fed_pieces
ruled_out = record { cut = refl; ended = refl; seam = refl; next = refl }
