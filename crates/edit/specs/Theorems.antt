-- What is proved of these definitions. Demand 3 has a file of its own.
use Rattle.std.specs.Prelude.{Bool, true, false, List, map, ◌≡◌, ℕ, ◌≤◌, min, max, length}
use Rattle.promise.specs.Paper.{done, refused}
use Rattle.promise.specs.Settled.{Settles}
use Rattle.text.specs.declared.Position.{Position}
use Rattle.text.specs.Rows.{earlier, last_row, row_len, clamp}
use Rattle.text.specs.Text.{is_lf}
use Rattle.edit.specs.declared.View.{View}
use Rattle.edit.specs.declared.MotionKind.{MotionKind}
use Rattle.edit.specs.declared.MotionKind.TheVariants.{Char, Line as Lines, Block}
use Rattle.edit.specs.declared.Edit.{Edit}
use Rattle.edit.specs.declared.Edit.TheVariants.{InsertChar, InsertStr, DeleteRange, JoinLines, SplitLines, Replace, InsertBlock, DeleteBlockChunks}
use Rattle.edit.specs.declared.Applied.{Applied}
use Rattle.edit.specs.Call.{paper, first_of, Lent, text_of, given_tests, Outcome, applied, undoable}
use Rattle.edit.specs.Edits.{Whole, whole, Made, Edited, edited, edited_by}

module _ {A B : Type 0} (f : A → B) where
  abbrev pub map_whole : Whole A → Whole B
  map_whole w = whole w.edit (map f w.payload) w.first w.second

  abbrev pub map_made : Made A → Made B
  map_made m = record { pad = f m.pad; space = f m.space; break = f m.break }

  abbrev pub map_edited : Edited A → Edited B
  map_edited d = edited (map f d.text) (map_whole d.inverse) d.cursor

-- Edits do the same whatever their elements carry beside: a map that keeps LF and space commutes with every edit.
abbrev pub Natural : Type 1
Natural =
    (A B : Type 0) (f : A → B) (lf sp : A → Bool) (lf' sp' : B → Bool) → ((x : A) → lf' (f x) ≡ lf x) → ((x : A) → sp' (f x) ≡ sp x) → (made : Made A)
    → (e : Edit) (x : List A) (first second : List ℕ) (t : List A)
    → edited_by lf' sp' (map_made f made) e (map f x) first second (map f t) ≡ map_edited f (edited_by lf sp made e x first second t)

-- The kinds and conditions of demand 3, by places and rows: "character deletes and replaces whose earlier end stands in the text
-- at that moment; block deletes with no touched row shorter than the left column"; "A touched row is one that exists."
abbrev pub Stands : List ℕ → Position → Type 0
Stands t p = clamp is_lf t p ≡ p

abbrev pub RangeCondition : List ℕ → Position → Position → MotionKind → Type 0
RangeCondition t p q Char = Stands t (earlier p q)
RangeCondition t p q Lines = Unit {0}
RangeCondition t p q Block =
    (r : ℕ) → min p.row.0 q.row.0 ≤ r → r ≤ max p.row.0 q.row.0 → r ≤ last_row is_lf t → min p.col.0 q.col.0 ≤ row_len is_lf t r

abbrev pub Condition : List ℕ → Edit → Type 0
Condition t (InsertChar p) = Unit {0}
Condition t (InsertStr p) = Unit {0}
Condition t (DeleteRange p q k) = RangeCondition t p q k
Condition t (JoinLines r n b) = Unit {0}
Condition t (SplitLines r) = ⊥
Condition t (Replace p q) = Stands t (earlier p q)
Condition t (InsertBlock p) = Unit {0}
Condition t (DeleteBlockChunks p) = ⊥

-- rows 1 to 4 do not refuse
abbrev pub Given : View → Edit → Lent → Type 0
Given v e l = first_of (given_tests v e l) (done true) ≡ done true

-- "`undoable` says yes exactly for the kinds and conditions of demand 3; it refuses by rows 1 to 4 below."
pub record UndoableSays (v : View) (e : Edit) (l : Lent) : Type 0 where
  pub yes : Given v e l → Condition (text_of v l) e → undoable v e l ≡ done true
  pub no : Given v e l → (Condition (text_of v l) e → ⊥) → undoable v e l ≡ done false
  pub only_yes : undoable v e l ≡ done true → Given v e l × Condition (text_of v l) e
  pub refuses : (n k : ℕ) → first_of (given_tests v e l) (done true) ≡ refused n k → undoable v e l ≡ refused n k

abbrev pub UndoableExactly : Type 0
UndoableExactly = (v : View) (e : Edit) (l : Lent) → UndoableSays v e l

-- A call keeps the length of every slice, accepted or not.
pub record SameLengths (l : Lent) (r : Outcome) : Type 0 where
  pub text : length r.text ≡ length l.buffer
  pub payload : length r.payload ≡ length l.out_payload
  pub first : length r.first ≡ length l.out_first
  pub second : length r.second ≡ length l.out_second

abbrev pub LengthsKept : Type 0
LengthsKept = (v : View) (e : Edit) (l : Lent) → SameLengths l (applied v e l)

-- "Demand 3's record room is a payload slice as long as the text buffer and 256 items in each list slice": the inverse of every accepted
-- edit fits it, whatever was lent. What its payload holds stood in the text, and that is in the buffer.
pub record FitsNamedRoom (v : View) (l : Lent) (a : Applied) : Type 0 where
  pub payload : a.payload ≤ v.used
  pub used : v.used ≤ length l.buffer
  pub first : a.first ≤ 256
  pub second : a.second ≤ 256

abbrev pub InverseFits : Type 0
InverseFits = (v : View) (e : Edit) (l : Lent) (a : Applied) → (applied v e l).answer ≡ done a → FitsNamedRoom v l a

-- So where that room is lent, or more, no edit is refused by 9.
abbrev pub NamedRoomSuffices : Type 0
NamedRoomSuffices =
    (v : View) (e : Edit) (l : Lent) (k : ℕ) → length l.buffer ≤ length l.out_payload → 256 ≤ length l.out_first → 256 ≤ length l.out_second
    → (applied v e l).answer ≡ refused 9 k → ⊥

-- an answer is settled by its number, its offset or what was done
abbrev pub AnswerSettled : Type 0
AnswerSettled = Settles (paper {A = Applied})
