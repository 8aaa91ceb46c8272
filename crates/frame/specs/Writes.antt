-- A frame written as a line, or the refusal.
use Rattle.std.specs.Prelude.{cond, List, ℕ, leb, length}
use Rattle.promise.specs.Paper.{Paper, done, refused}
use Rattle.utf8.specs.Reading.{all_scalar}
use Rattle.hexline.specs.Digits.{digit_limit, hexed}
use Rattle.frame.specs.Format.{Frame, frame_bytes, has_frame, frame_chars}

-- 10 for an edit that has no frame, then 1: "from the writer, 1 means a value that is none", then 8 for a line of more than
-- "36,864 digits", which no reader takes
unfoldable pub line_of : Frame → Paper (List ℕ)
line_of f =
    cond (has_frame f)
    (cond (all_scalar (frame_chars f))
    (cond (leb (length (hexed (frame_bytes f))) digit_limit) (done (hexed (frame_bytes f))) (refused 8 0))
    (refused 1 0))
    (refused 10 0)
