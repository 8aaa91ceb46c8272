-- Demand 3 of the code: runs of calls of `apply_edit` on lent buffers, of which nothing is known but what it promises.
use Rattle.std.specs.Prelude.{◌≡◌, List, ℕ, take}
use Rattle.edit.specs.declared.Applied.{Applied}
use Rattle.edit.specs.Edits.{Whole, whole}
use Rattle.edit.specs.Runs.{Run}
use Rattle.edit.specs.Call.{Promised}
use Rattle.edit.specs.Demand3.{State, Beside, RecordRoom, view_at, lent_at, Undone}
use Rattle.view.specs.Calls.{UndoablePromised}
use Rattle.std.specs.Prelude.{Result, Ok, Err, Bool, true, false}
use Rattle.edit.specs.declared.Refusal.{Refusal}

-- a call of `apply_edit` for edit w at state s: what it answers, what is in the slices at exit, and its promise
pub record Call (s : State) (w : Whole ℕ) (o : Beside) : Type 0 where
  pub answer : Result Applied Refusal
  pub text : List ℕ
  pub payload : List ℕ
  pub first : List ℕ
  pub second : List ℕ
  pub promise : Promised answer text payload first second (view_at s o) w.edit (lent_at s w o)

-- Every edit at every state, with anything beside, has one: what is said of each call is said of some.
abbrev pub CallsExist : Type 0
CallsExist = (s : State) (w : Whole ℕ) (o : Beside) → Call s w o

module _ {s : State} {w : Whole ℕ} {o : Beside} where
  -- what the caller has after an accepted call: the state, and the inverse as it stands in the slices
  abbrev pub left : Applied → Call s w o → State
  left a c = record { used = a.view.used; buffer = c.text }

  abbrev pub handed : Applied → Call s w o → Whole ℕ
  handed a c = whole a.inverse (take a.payload c.payload) (take a.first c.first) (take a.second c.second)

  -- it is accepted, and leaves u and the inverse i
  abbrev pub AcceptedCall : Call s w o → State → Whole ℕ → Type 0
  AcceptedCall c u i = (a : Applied) × (c.answer ≡ Ok a) × (left a c ≡ u) × (handed a c ≡ i)

-- Whoever calls it, with any cursor and counter and the record room, whatever that holds: the call is accepted, and leaves u and the inverse i.
abbrev pub AcceptedCalls : State → Whole ℕ → State → Whole ℕ → Type 0
AcceptedCalls s w u i = (o : Beside) → RecordRoom s o → (c : Call s w o) → AcceptedCall c u i

-- a call that was made and accepted, with whatever slices sufficed, for an edit to which `undoable` said yes
pub record UndoableCall (s : State) (w : Whole ℕ) (u : State) (i : Whole ℕ) : Type 0 where
  pub beside : Beside
  pub said : Result Bool Refusal
  pub promise : UndoablePromised said s.buffer (view_at s beside) w.edit w.payload w.first w.second
  pub yes : said ≡ Ok true
  pub call : Call s w beside
  pub accepted : AcceptedCall call u i

abbrev pub CodeDemand3 : Type 0
CodeDemand3 = (s w : State) (r : Run UndoableCall s w) → Undone AcceptedCalls r
