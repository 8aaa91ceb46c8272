-- What a line that is no edit prints, and what the script has after it.
use Rattle.std.specs.Prelude.{cond, not, List, [], ◌∷◌, ◌++◌, ℕ, ltb, length}
use Rattle.promise.specs.Paper.{Paper, done, refused}
use Rattle.promise.specs.Slices.{over}
use Rattle.text.specs.Rows.{at}
use Rattle.text.specs.Text.{all_admissible}
use Rattle.edit.specs.Edits.{Whole}
use Rattle.shift.specs.Answers.{to}
use Rattle.frame.specs.Format.{Frame, text, mark, edit}
use Rattle.printing.specs.Prints.{printed_as}
use Rattle.loading.specs.States.{State, state}

-- the script after a line, and what the line prints: nothing, or a line with its LF
pub record Stepped : Type 0 where
  pub state : State
  pub printed : List ℕ

abbrev pub stepped : State → List ℕ → Stepped
stepped s o = record { state = s; printed = o }

-- "or the refusal byte"; "A malformed line prints 0a and is skipped"
abbrev pub refuses : State → ℕ → Stepped
refuses s n = stepped s (printed_as (n ∷ []))

-- "A text frame prints nothing unless refused: 5, 1 for an inadmissible value, 8 for over 4,096 characters; the text then stays empty."
unfoldable pub loaded : State → List ℕ → Stepped
loaded s cs =
    cond (not (all_admissible cs)) (refuses s 1)
    (cond (ltb (length s.buffer) (length cs)) (refuses s 8)
    (stepped (state (record { used = length cs; cursor = at 0 0; changes = s.view.changes }) (over cs s.buffer) s.place s.marks) []))

-- what a frame in its place does, or the refusal of its line; an edit does f
unfoldable pub framed_by : (Whole ℕ → Stepped) → State → Paper Frame → Stepped
framed_by f s (done (text cs)) = loaded s cs
framed_by f s (done (mark m)) = stepped (state s.view s.buffer s.place (s.marks ++ (to m ∷ []))) []
framed_by f s (done (edit w)) = f w
framed_by f s (refused n k) = refuses s n
