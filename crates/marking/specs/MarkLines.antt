-- What marks print at the end of a script.
use Rattle.std.specs.Prelude.{List, [], ◌∷◌, ◌++◌, ℕ}
use Rattle.select.specs.declared.Sel.{Sel}
use Rattle.shift.specs.Answers.{Followed, to, dropped}
use Rattle.frame.specs.Format.{mark, frame_bytes}
use Rattle.printing.specs.Prints.{printed_as}

-- "then each mark, or 03 alone if dropped"
unfoldable pub mark_line : Followed Sel → List ℕ
mark_line (to m) = printed_as (frame_bytes (mark m))
mark_line dropped = printed_as (0x03 ∷ [])

unfoldable pub mark_lines : List (Followed Sel) → List ℕ
mark_lines [] = []
mark_lines (m ∷ ms) = mark_line m ++ mark_lines ms
