-- What each call answers, where no other crate has it: undoable's answer is `undoable` in edit/specs/Call.antt, and
-- clamp_position's is `clamped_in` in text/specs/Calls.antt.
use Rattle.std.specs.Prelude.{◌≡◌, List, ℕ}
use Rattle.promise.specs.Paper.{Paper}
use Rattle.text.specs.declared.Position.{Position}
use Rattle.text.specs.Rows.{clamp}
use Rattle.text.specs.Text.{is_lf}
use Rattle.text.specs.Calls.{on_text}
use Rattle.edit.specs.declared.View.{View}
use Rattle.edit.specs.declared.Edit.{Edit}
use Rattle.edit.specs.Call.{paper, lent, undoable}
use Rattle.std.specs.Prelude.{Result, Ok, Err, Bool, true, false}
use Rattle.edit.specs.declared.Refusal.{Refusal}

-- What `undoable` promises: "`undoable` says yes exactly for the kinds and conditions of demand 3; it refuses by rows 1 to 4 below." It is lent no slices for an inverse; its answer is the one for any.
abbrev pub UndoablePromised : Result Bool Refusal → List ℕ → View → Edit → List ℕ → List ℕ → List ℕ → Type 0
UndoablePromised r buffer v e payload first second = (ox of os : List ℕ) → paper r ≡ undoable v e (lent buffer payload first second ox of os)

-- the counter counts edits, and this is none
abbrev pub with_cursor : View → Position → View
with_cursor v c = record { used = v.used; cursor = c; changes = v.changes }

-- set_cursor: "Clamping, cursor moves .. take any 32-bit number and refuse by row 1 alone."
abbrev pub cursor_set_in : List ℕ → View → Position → Paper View
cursor_set_in buffer v p = on_text (λ t. with_cursor v (clamp is_lf t p)) buffer v.used
