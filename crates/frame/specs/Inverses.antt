-- "Lines of lower-case hexadecimal, at most 36,864 digits", and what a run prints never needs more: its text is in "a 4,096-character buffer".
-- The proofs stand in proofs/Inverses.antt.
use Rattle.std.specs.Prelude.{true, List, ◌≡◌, ℕ, ◌≤◌, length}
use Rattle.promise.specs.Paper.{done}
use Rattle.text.specs.Text.{all_admissible}
use Rattle.edit.specs.declared.View.{View}
use Rattle.edit.specs.declared.Edit.{Edit}
use Rattle.edit.specs.declared.Applied.{Applied}
use Rattle.edit.specs.Call.{Lent, result_of, applied}
use Rattle.select.specs.declared.Sel.{Sel}
use Rattle.hexline.specs.Digits.{hexed}
use Rattle.frame.specs.Format.{Frame, text, mark, edit, frame_bytes}
use Rattle.frame.specs.Writes.{line_of}
use Rattle.frame.specs.Theorems.{used_of, words}

-- the writer does not refuse
abbrev pub HasLine : Frame → Type 0
HasLine f = line_of f ≡ done (hexed (frame_bytes f))

-- "Per edit line it prints 00 and the inverse frame": each inverse has one, and it is read back as it is
abbrev pub InversesHaveLines : Type 0
InversesHaveLines =
    (v : View) (e : Edit) (l : Lent) (a : Applied) → (applied v e l).answer ≡ done a → length l.buffer ≤ 4_096
    → HasLine (edit (result_of v e l).inverse) × (words (edit (result_of v e l).inverse) ≡ true) × (used_of (edit (result_of v e l).inverse) ≡ edit (result_of v e l).inverse)

-- "at the end the text frame, then each mark"
abbrev pub TextsHaveLines : Type 0
TextsHaveLines = (cs : List ℕ) → all_admissible cs ≡ true → length cs ≤ 4_096 → HasLine (text cs) × (words (text cs) ≡ true)

abbrev pub MarksHaveLines : Type 0
MarksHaveLines = (s : Sel) → HasLine (mark s)
