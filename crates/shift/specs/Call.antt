-- The whole call of a shift. Nothing that is lent is written.
use Rattle.std.specs.Prelude.{Bool, true, cond, not, ◌&&◌, List, [], ◌∷◌, ◌≡◌, ℕ, leb, take}
use Rattle.promise.specs.Paper.{Paper, done, refused}
use Rattle.text.specs.declared.Position.{Position}
use Rattle.text.specs.Rows.{upto}
use Rattle.text.specs.Text.{text_ok}
use Rattle.edit.specs.declared.MotionKind.{MotionKind}
use Rattle.edit.specs.declared.MotionKind.TheVariants.{Char, Line as Lines, Block}
use Rattle.edit.specs.declared.Edit.{Edit}
use Rattle.edit.specs.declared.Edit.TheVariants.{InsertChar, InsertStr, DeleteRange, JoinLines, SplitLines, Replace, InsertBlock, DeleteBlockChunks}
use Rattle.edit.specs.declared.Refusal.{Refusal}
use Rattle.edit.specs.declared.Refusal.TheVariants.{BadText, TooBig, TooMany, BadPayload, Reversed}
use Rattle.edit.specs.Refusals.{small_position, small_ok, few_ok, payload_ok}
use Rattle.edit.specs.Call.{first_of}
use Rattle.select.specs.declared.Sel.{Sel}
use Rattle.select.specs.Sels.{sel}
use Rattle.shift.specs.Answers.{Followed, to, dropped, paper_shifted}
use Rattle.shift.specs.Kinds.{shifted}
use Rattle.std.specs.Prelude.{Result, Ok, Err, Option, Some, None}

-- 6 Reversed: "shift only: Char or Replace start after end, Line start row after end row"
unfoldable pub ordered_range : Position → Position → MotionKind → Bool
ordered_range s e Char = upto s e
ordered_range s e Lines = leb s.row.0 e.row.0
ordered_range s e Block = true

unfoldable pub ordered_ok : Edit → Bool
ordered_ok (InsertChar p) = true
ordered_ok (InsertStr p) = true
ordered_ok (DeleteRange s e k) = ordered_range s e k
ordered_ok (JoinLines r n b) = true
ordered_ok (SplitLines r) = true
ordered_ok (Replace s e) = upto s e
ordered_ok (InsertBlock p) = true
ordered_ok (DeleteBlockChunks p) = true

-- "Numbers in an edit, and in a position given to a shift, are at most 1,000,000."; "Rows 7 to 9 concern no shift."
abbrev pub shift_tests : List ℕ → ℕ → Edit → List ℕ → List ℕ → List ℕ → Bool → List (Bool × Refusal)
shift_tests buffer used e x f s small =
    (not (text_ok buffer used), BadText)
    ∷ (not (small_ok e f s && small), TooBig)
    ∷ (not (few_ok (take used buffer) e x f s), TooMany)
    ∷ (not (payload_ok e x f), BadPayload)
    ∷ (not (ordered_ok e), Reversed)
    ∷ []

-- "in order of checking", and then where `selection_shift.rs` has it
unfoldable pub position_shifted : List ℕ → ℕ → Edit → List ℕ → List ℕ → List ℕ → Position → Paper (Followed Position)
position_shifted buffer used e x f s p =
    first_of (shift_tests buffer used e x f s (small_position p)) (done (shifted (take used buffer) e x f p))

-- What `shift_position` promises.
abbrev pub ShiftPromised : Result (Option Position) Refusal → List ℕ → ℕ → Edit → List ℕ → List ℕ → List ℕ → Position → Type 0
ShiftPromised r buffer used e x f s p = paper_shifted r ≡ position_shifted buffer used e x f s p

-- "either the whole selection survives the edit or the whole selection is dropped"; "Shifts don't reorder ends."
abbrev pub both : Followed Position → Followed Position → Followed Sel
both (to a) (to h) = to (sel a h)
both (to a) dropped = dropped
both dropped (to h) = dropped
both dropped dropped = dropped

unfoldable pub sel_shifted : List ℕ → ℕ → Edit → List ℕ → List ℕ → List ℕ → Sel → Paper (Followed Sel)
sel_shifted buffer used e x f s l =
    first_of (shift_tests buffer used e x f s (small_position l.anchor && small_position l.head))
    (done (both (shifted (take used buffer) e x f l.anchor) (shifted (take used buffer) e x f l.head)))

-- ---- a selection that is carried along, where an answer has no refusal

-- "a refused shift drops"
abbrev pub kept : Paper (Followed Sel) → Followed Sel
kept (done c) = c
kept (refused n k) = dropped

-- over an edit that no row refuses, of a text that is admitted: what is left to refuse is a position over "1,000,000"
unfoldable pub carried_over : List ℕ → Edit → List ℕ → List ℕ → Sel → Followed Sel
carried_over t e x f l =
    cond (small_position l.anchor && small_position l.head) (both (shifted t e x f l.anchor) (shifted t e x f l.head)) dropped
