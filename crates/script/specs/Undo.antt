-- What the proofreader relies on: what a script prints takes it back through its texts, and what that prints makes them again.
use Rattle.std.specs.Prelude.{Bool, true, false, cond, ◌&&◌, List, [], ◌∷◌, ◌++◌, map, reverse, ◌≡◌, ℕ, ◌≤◌, eqb, length, drop, get_or}
use Rattle.promise.specs.Paper.{Paper, done, refused}
use Rattle.text.specs.Rows.{Line, lines}
use Rattle.text.specs.Text.{is_lf, all_admissible}
use Rattle.edit.specs.Call.{undoable}
use Rattle.hexline.specs.Digits.{hexed}
use Rattle.frame.specs.Format.{Frame, text, mark, edit, frame_bytes}
use Rattle.frame.specs.Reads.{frame_read}
use Rattle.loading.specs.States.{State, text_in, buffer_limit, opening}
use Rattle.step.specs.Steps.{lent_to}
use Rattle.feed.specs.Scripts.{line_step, output}

-- some lines as a script, "each ended by LF", and the lines of a script or of an output
unfoldable pub script : List (List ℕ) → List ℕ
script [] = []
script (l ∷ ls) = l ++ (10 ∷ script ls)

abbrev pub rows : List ℕ → List (List ℕ)
rows w = map (λ r. r.body) (lines is_lf w)

abbrev pub last_of : List (List ℕ) → List ℕ
last_of ls = get_or (reverse ls) 0 []

-- ---- what a script prints

-- the line begins with a 0, which is 48, and the digit d; of some lines, those that do
unfoldable pub starts : ℕ → List ℕ → Bool
starts d l = eqb (get_or l 0 0) 48 && eqb (get_or l 1 0) d

unfoldable pub starting : ℕ → List (List ℕ) → List (List ℕ)
starting d [] = []
starting d (l ∷ ls) = cond (starts d l) (l ∷ starting d ls) (starting d ls)

-- "Per edit line it prints 00 and the inverse frame": the inverse frames, in the order printed
abbrev pub accepted : List ℕ → List ℕ
accepted i = 48 ∷ 48 ∷ i

abbrev pub inverses_in : List (List ℕ) → List (List ℕ)
inverses_in ls = map (drop 2) (starting 48 ls)

-- "at the end the text frame, then each mark, or 03 alone if dropped": the last line that begins with 01, as no mark does
abbrev pub text_line : List ℕ → List ℕ
text_line t = hexed (frame_bytes (text t))

abbrev pub text_line_in : List (List ℕ) → List ℕ
text_line_in ls = last_of (starting 49 ls)

-- The script that takes w back: the text frame that w prints, and the inverse frames that it prints, last first. The same of that
-- script makes again what w made.
unfoldable pub undo : List ℕ → List ℕ
undo w = let o = rows (output w) in script (text_line_in o ∷ reverse (inverses_in o))

-- ---- the edits of a script

-- "the text at each stage": before each line that prints 00, which is an accepted edit, and at the end
unfoldable pub texts_from : State → List (Line ℕ) → List (List ℕ)
texts_from s [] = text_in s ∷ []
texts_from s (r ∷ rs) =
    let x = line_step s r in
    cond (starts 48 x.printed) (text_in s ∷ texts_from x.state rs) (texts_from x.state rs)

abbrev pub texts : List ℕ → List (List ℕ)
texts w = texts_from opening (lines is_lf w)

-- `undoable` says yes, at s, to the edit that a line was read as
unfoldable pub yes : Paper Bool → Bool
yes (done b) = b
yes (refused n k) = false

unfoldable pub says_yes : State → Paper Frame → Bool
says_yes s (done (text t)) = false
says_yes s (done (mark m)) = false
says_yes s (done (edit w)) = yes (undoable s.view w.edit (lent_to s w))
says_yes s (refused n k) = false

-- it says so to every accepted edit, each at its moment
unfoldable pub undoable_from : State → List (Line ℕ) → Bool
undoable_from s [] = true
undoable_from s (r ∷ rs) =
    let x = line_step s r in
    cond (starts 48 x.printed) (says_yes s (frame_read r.body)) true && undoable_from x.state rs

abbrev pub all_undoable : List ℕ → Bool
all_undoable w = undoable_from opening (lines is_lf w)

-- ---- the theorem

-- Every edit of b is accepted: b prints 00 and an inverse frame for each that w printed, then its last text, and nothing else.
pub record Accepts (w b : List ℕ) : Type 0 where
  pub one_each : length (inverses_in (rows (output b))) ≡ length (inverses_in (rows (output w)))
  pub alone : output b ≡ script (map accepted (inverses_in (rows (output b))) ++ (text_line (last_of (texts b)) ∷ []))

-- demand 3: "every returned inverse is accepted, and applying them last first gives back the text at each stage, character for character.
-- The inverses which those give, again applied last first, are accepted and rebuild the edited text at each stage."
pub record Undone (w : List ℕ) : Type 0 where
  pub ends : text_line_in (rows (output w)) ≡ text_line (last_of (texts w))
  pub back : texts (undo w) ≡ reverse (texts w)
  pub back_accepted : Accepts w (undo w)
  pub again : texts (undo (undo w)) ≡ texts w
  pub again_accepted : Accepts w (undo (undo w))

-- Whatever the input: with a text frame or without, with marks, refused edits and malformed lines anywhere.
abbrev pub UndoesScripts : Type 0
UndoesScripts = (w : List ℕ) → all_undoable w ≡ true → Undone w

-- The first of the texts is that of the text frame. "Without a text frame the text is empty."
pub record Opens : Type 0 where
  pub given : (t rest : List ℕ) → all_admissible t ≡ true → length t ≤ buffer_limit → get_or (texts (text_line t ++ (10 ∷ rest))) 0 [] ≡ t
  pub empty : (w : List ℕ) → starting 49 (rows w) ≡ [] → get_or (texts w) 0 [] ≡ []
