-- The same of the code: runs of calls of `apply_edit`, with calls of `shift_position` before each, of which nothing is known but what they promise.
use Rattle.std.specs.Prelude.{true, List, map, ◌≡◌, ℕ}
use Rattle.promise.specs.Paper.{done}
use Rattle.text.specs.declared.Position.{Position}
use Rattle.text.specs.Rows.{upto, end_of}
use Rattle.edit.specs.declared.View.{View}
use Rattle.edit.specs.declared.Edit.{Edit}
use Rattle.edit.specs.declared.Applied.{Applied}
use Rattle.edit.specs.Edits.{Whole, whole}
use Rattle.edit.specs.Refusals.{small_position}
use Rattle.edit.specs.Theorems.{Stands}
use Rattle.edit.specs.Call.{Lent, text_of, applied}
use Rattle.edit.specs.Runs.{Run, stop, step, edits}
use Rattle.edit.specs.Demand3.{State, text, Beside}
use Rattle.apply.specs.Demand3.{Call, AcceptedCall}
use Rattle.shift.specs.Answers.{to}
use Rattle.shift.specs.Call.{position_shifted, ShiftPromised}
use Rattle.origins.specs.Origins.{Traced, value, lf_at, opened, traced_by, traced_run}
use Rattle.letters.specs.Keeps.{Keeps}
use Rattle.letters.specs.Theorems.{Letter}
use Rattle.std.specs.Prelude.{Result, Ok, Err, Option, Some, None}
use Rattle.edit.specs.declared.Refusal.{Refusal}

-- ---- one call, as it is defined

-- "Take an accepted edit"; "the shifted position" is what `shift_position` has to answer on the text before it.
abbrev pub LettersStayCall : Type 0
LettersStayCall =
    (v : View) (e : Edit) (l : Lent) (a : Applied) → (applied v e l).answer ≡ done a → Keeps (text_of v l) e l.first l.second
    → (before behind : List Traced) (c : Traced) (p : Position)
    → Letter (traced_by 0 (whole e l.payload l.first l.second) (opened (text_of v l))).text before behind c p
    → position_shifted l.buffer v.used e l.payload l.first l.second p ≡ done (to (end_of lf_at before))

-- ---- calls that were made

-- a call of `shift_position` for p, over edit w of the text at s
pub record ShiftCall (s : State) (w : Whole ℕ) (p : Position) : Type 0 where
  pub answer : Result (Option Position) Refusal
  pub promise : ShiftPromised answer s.buffer s.used w.edit w.payload w.first w.second p

-- Every edit at every state has one for every position: what is said of each call is said of some.
abbrev pub ShiftCallsExist : Type 0
ShiftCallsExist = (s : State) (w : Whole ℕ) (p : Position) → ShiftCall s w p

-- a call of `apply_edit` that was accepted, for an edit over which marks stay
pub record KeepingCall (s : State) (w : Whole ℕ) (u : State) (i : Whole ℕ) : Type 0 where
  pub beside : Beside
  pub call : Call s w beside
  pub accepted : AcceptedCall call u i
  pub keeps : Keeps (text s) w.edit w.first w.second

-- Whoever calls `shift_position` for p before the first edit, and before each next one for what was answered: it answers a place each time, and q is the last.
unfoldable pub FollowedTo : {s z : State} → Run KeepingCall s z → Position → Position → Type 0
FollowedTo stop p q = p ≡ q
FollowedTo (step {s = s} {e = w} h r) p q = (c : ShiftCall s w p) → (m : Position) × (c.answer ≡ Ok (Some m)) × FollowedTo r m q

pub record LettersFollowed {s z : State} (r : Run KeepingCall s z) : Type 0 where
  -- what is traced is the text that the last call left
  pub last : map value (traced_run 0 (opened (text s)) (edits r)) ≡ text z
  pub letters : (before behind : List Traced) (c : Traced) (p : Position) → Letter (traced_run 0 (opened (text s)) (edits r)) before behind c p
      → FollowedTo r p (end_of lf_at before)

-- "each character other than LF that the edit's definition doesn't remove stands afterwards at the shifted position of where it stood before"; "the shifts composed
-- give the same place as the surviving character's in the last text"
abbrev pub CodeLettersStay : Type 0
CodeLettersStay = (s z : State) (r : Run KeepingCall s z) → LettersFollowed r

-- Two marks, carried so: before each edit and at the end they are in order. Row 2 leaves only a mark past 1,000,000 without an answer.
unfoldable pub NeverPass : {s z : State} → Run KeepingCall s z → Position → Position → Type 0
NeverPass stop p q = upto p q ≡ true
NeverPass (step {s = s} {e = w} h r) p q =
    (upto p q ≡ true)
    × (small_position p ≡ true → small_position q ≡ true → (c : ShiftCall s w p) (d : ShiftCall s w q)
    → (m : Position) × (n : Position) × (c.answer ≡ Ok (Some m)) × (d.answer ≡ Ok (Some n)) × NeverPass r m n)

-- "Two marks in the text may meet but never pass each other."
abbrev pub CodeMarksMeet : Type 0
CodeMarksMeet = (s z : State) (r : Run KeepingCall s z) (p q : Position) → Stands (text s) p → Stands (text s) q → upto p q ≡ true → NeverPass r p q

-- What both say is not empty: no position is led to two places, and two that are led along the run end in order.
abbrev pub LedOnce : Type 0
LedOnce = (s z : State) (r : Run KeepingCall s z) (p m n : Position) → FollowedTo r p m → FollowedTo r p n → m ≡ n

abbrev pub LedInOrder : Type 0
LedInOrder = (s z : State) (r : Run KeepingCall s z) (p q m n : Position) → NeverPass r p q → FollowedTo r p m → FollowedTo r q n → upto m n ≡ true
