-- The whole call of an edit: from the lent slices, the view and the edit at entry to the answer and every lent slice at exit.
use Rattle.std.specs.Prelude.{◌≡◌, Bool, true, false, cond, not, List, [], ◌∷◌, ◌++◌, ℕ, ◌+◌, ◌%◌, ◌^◌, length, take, drop}
use Rattle.promise.specs.Paper.{Paper, done, refused}
use Rattle.promise.specs.Slices.{over}
use Rattle.text.specs.declared.Position.{Position}
use Rattle.text.specs.Rows.{lines, earlier, in_text}
use Rattle.text.specs.Text.{is_lf, text_ok, renewed}
use Rattle.edit.specs.declared.View.{View}
use Rattle.edit.specs.declared.MotionKind.{MotionKind}
use Rattle.edit.specs.declared.MotionKind.TheVariants.{Char, Line as Lines, Block}
use Rattle.edit.specs.declared.Edit.{Edit}
use Rattle.edit.specs.declared.Edit.TheVariants.{InsertChar, InsertStr, DeleteRange, JoinLines, SplitLines, Replace, InsertBlock, DeleteBlockChunks}
use Rattle.edit.specs.declared.Refusal.{Refusal}
use Rattle.edit.specs.declared.Refusal.TheVariants.{BadText, TooBig, TooMany, BadPayload, BadUtf8, Reversed, BeyondRow, NoRoom, NoRecord, BadFrame}
use Rattle.edit.specs.declared.Room.{Room}
use Rattle.edit.specs.declared.Plan.{Plan}
use Rattle.edit.specs.declared.Applied.{Applied}
use Rattle.edit.specs.Edits.{Edited, edited_by, corner, height}
use Rattle.edit.specs.Refusals.{is_space, spaces, small_ok, few_ok, payload_ok, within_ok, room_ok, record_ok, wide}
use Rattle.std.specs.Prelude.{Result, Ok, Err}

-- ---- document 01's table: number and offset of each refusal

abbrev pub number_of : Refusal → ℕ
number_of BadText = 1
number_of TooBig = 2
number_of TooMany = 3
number_of BadPayload = 4
number_of (BadUtf8 at) = 5
number_of Reversed = 6
number_of BeyondRow = 7
number_of NoRoom = 8
number_of NoRecord = 9
number_of BadFrame = 10

-- "(offset 0 except for 5)"
abbrev pub offset_of : Refusal → ℕ
offset_of BadText = 0
offset_of TooBig = 0
offset_of TooMany = 0
offset_of BadPayload = 0
offset_of (BadUtf8 at) = at.0
offset_of Reversed = 0
offset_of BeyondRow = 0
offset_of NoRoom = 0
offset_of NoRecord = 0
offset_of BadFrame = 0

-- what is done, or what is refused
abbrev pub paper : {A : Type 0} → Result A Refusal → Paper A
paper (Ok a) = done a
paper (Err r) = refused (number_of r) (offset_of r)

-- ---- refusals in order

-- "Each is given exactly when its row holds and no earlier one does": the first test that holds refuses
unfoldable pub first_of : {A : Type 0} → List (Bool × Refusal) → Paper A → Paper A
first_of [] a = a
first_of (x ∷ xs) a = cond x.0 (refused (number_of x.1) (offset_of x.1)) (first_of xs a)

-- the same where it is not known yet what is done if all pass
abbrev pub verdict_of : List (Bool × Refusal) → Paper (Unit {0})
verdict_of xs = first_of xs (done tt)

-- what is lent: the text's buffer, the edit's payload and lists, and the slices for the inverse's
pub record Lent : Type 0 where
  pub buffer : List ℕ
  pub payload : List ℕ
  pub first : List ℕ
  pub second : List ℕ
  pub out_payload : List ℕ
  pub out_first : List ℕ
  pub out_second : List ℕ

abbrev pub lent : List ℕ → List ℕ → List ℕ → List ℕ → List ℕ → List ℕ → List ℕ → Lent
lent b x f s ox of os = record { buffer = b; payload = x; first = f; second = s; out_payload = ox; out_first = of; out_second = os }

abbrev pub room_of : Lent → Room
room_of l = record { buffer = length l.buffer; payload = length l.out_payload; first = length l.out_first; second = length l.out_second }

-- the text, and what the edit makes of it
abbrev pub text_of : View → Lent → List ℕ
text_of v l = take v.used l.buffer

unfoldable pub result_of : View → Edit → Lent → Edited ℕ
result_of v e l = edited_by is_lf is_space spaces e l.payload l.first l.second (text_of v l)

-- rows 1 to 4, about what is given
abbrev pub given_tests : View → Edit → Lent → List (Bool × Refusal)
given_tests v e l =
    (not (text_ok l.buffer v.used), BadText)
    ∷ (not (small_ok e l.first l.second), TooBig)
    ∷ (not (few_ok (text_of v l) e l.payload l.first l.second), TooMany)
    ∷ (not (payload_ok e l.payload l.first), BadPayload)
    ∷ []

-- rows 7 to 9, about what comes of it
abbrev pub result_tests : Bool → Room → Edited ℕ → List (Bool × Refusal)
result_tests within R d = (not within, BeyondRow) ∷ (not (room_ok R d.text), NoRoom) ∷ (not (record_ok R d.inverse), NoRecord) ∷ []

-- ---- the call

-- the answer, and every slice that the call may write
pub record Outcome : Type 0 where
  pub answer : Paper Applied
  pub text : List ℕ
  pub payload : List ℕ
  pub first : List ℕ
  pub second : List ℕ

abbrev pub outcome : Paper Applied → List ℕ → List ℕ → List ℕ → List ℕ → Outcome
outcome a t p f s = record { answer = a; text = t; payload = p; first = f; second = s }

-- "Each accepted edit, even one that changes nothing, adds one to a 64-bit change counter that wraps."
abbrev pub next_view : View → Edited ℕ → View
next_view v d = record { used = length d.text; cursor = d.cursor; changes = (v.changes + 1) % 2 ^ 64 }

-- the sizes that rows 8 and 9 are about, which a worker finds before it stores anything
abbrev pub plan_of : Edited ℕ → Plan
plan_of d = record { used = length d.text; payload = length d.inverse.payload; first = length d.inverse.first; second = length d.inverse.second }

abbrev pub applied_as : View → Edited ℕ → Applied
applied_as v d =
    record { view = next_view v d; inverse = d.inverse.edit; payload = length d.inverse.payload; first = length d.inverse.first; second = length d.inverse.second }

-- "A refusal yields its number .. and nothing lent changes."
unfoldable pub leaves : Paper Applied → View → Lent → Edited ℕ → Outcome
leaves (refused n k) v l d = outcome (refused n k) l.buffer l.out_payload l.out_first l.out_second
leaves (done a) v l d =
    outcome (done a) (renewed l.buffer v.used d.text) (over d.inverse.payload l.out_payload) (over d.inverse.first l.out_first)
    (over d.inverse.second l.out_second)

-- what is left of a call that rows 1 to 4 do not refuse, for an edit that makes d of the text
unfoldable pub finished : Bool → View → Lent → Edited ℕ → Outcome
finished within v l d = leaves (first_of (result_tests within (room_of l) d) (done (applied_as v d))) v l d

-- the whole call: "in order of checking"
unfoldable pub applied : View → Edit → Lent → Outcome
applied v e l =
    let d = result_of v e l in
    leaves (first_of (given_tests v e l ++ result_tests (within_ok (text_of v l) e l.first l.second) (room_of l) d) (done (applied_as v d))) v l d

-- What `apply_edit` promises: its answer, with the text and the slices for the inverse as they are at exit, is the whole call at what was lent.
abbrev pub Promised : Result Applied Refusal → List ℕ → List ℕ → List ℕ → List ℕ → View → Edit → Lent → Type 0
Promised r text payload first second v e l = outcome (paper r) text payload first second ≡ applied v e l

-- ---- undoable

-- demand 3: "insertions, line deletes, joins and block inserts freely; character deletes and replaces whose earlier end stands in the text
-- at that moment; block deletes with no touched row shorter than the left column"
unfoldable pub range_undoable : List ℕ → Position → Position → MotionKind → Bool
range_undoable t p q Char = in_text is_lf t (earlier p q)
range_undoable t p q Lines = true
range_undoable t p q Block = wide (corner p q).col.0 (take (height p q) (drop (corner p q).row.0 (lines is_lf t)))

unfoldable pub is_undoable : List ℕ → Edit → Bool
is_undoable t (InsertChar p) = true
is_undoable t (InsertStr p) = true
is_undoable t (DeleteRange p q k) = range_undoable t p q k
is_undoable t (JoinLines r n b) = true
is_undoable t (SplitLines r) = false
is_undoable t (Replace p q) = in_text is_lf t (earlier p q)
is_undoable t (InsertBlock p) = true
is_undoable t (DeleteBlockChunks p) = false

-- "it refuses by rows 1 to 4"; the slices for an inverse are not read
unfoldable pub undoable : View → Edit → Lent → Paper Bool
undoable v e l = first_of (given_tests v e l) (done (is_undoable (text_of v l) e))
