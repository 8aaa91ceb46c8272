-- Demand 3, over the call itself: its views, its buffers and every slice that it is lent.
use Rattle.std.specs.Prelude.{◌≡◌, true, List, map, reverse, ℕ, ◌≤◌, length, take}
use Rattle.promise.specs.Paper.{done}
use Rattle.text.specs.declared.Position.{Position}
use Rattle.edit.specs.declared.View.{View}
use Rattle.edit.specs.declared.Applied.{Applied}
use Rattle.edit.specs.Edits.{Whole, whole}
use Rattle.edit.specs.Call.{Lent, Outcome, applied, undoable}
use Rattle.edit.specs.Runs.{Run, edits, inverses, stages}

-- what a caller keeps between calls; "The cursor and change counter are no part of this."
pub record State : Type 0 where
  pub used : ℕ
  pub buffer : List ℕ

abbrev pub text : State → List ℕ
text s = take s.used s.buffer

-- what a call is handed beside: a cursor, a counter, and the slices for the inverse
pub record Beside : Type 0 where
  pub cursor : Position
  pub changes : ℕ
  pub payload : List ℕ
  pub first : List ℕ
  pub second : List ℕ

-- "Demand 3's record room is a payload slice as long as the text buffer and 256 items in each list slice." More room serves too.
pub record RecordRoom (s : State) (o : Beside) : Type 0 where
  pub payload : length s.buffer ≤ length o.payload
  pub first : 256 ≤ length o.first
  pub second : 256 ≤ length o.second

abbrev pub view_at : State → Beside → View
view_at s o = record { used = s.used; cursor = o.cursor; changes = o.changes }

abbrev pub lent_at : State → Whole ℕ → Beside → Lent
lent_at s w o = record {
  buffer = s.buffer;
  payload = w.payload;
  first = w.first;
  second = w.second;
  out_payload = o.payload;
  out_first = o.first;
  out_second = o.second;
}

abbrev pub called : State → Whole ℕ → Beside → Outcome
called s w o = applied (view_at s o) w.edit (lent_at s w o)

-- what the caller has after an accepted call: the state, and the inverse as it stands in the slices
abbrev pub after : Applied → Outcome → State
after a r = record { used = a.view.used; buffer = r.text }

abbrev pub returned : Applied → Outcome → Whole ℕ
returned a r = whole a.inverse (take a.payload r.payload) (take a.first r.first) (take a.second r.second)

-- with o beside, edit w is accepted at s and leaves u and the inverse i
abbrev pub AcceptedWith : Beside → State → Whole ℕ → State → Whole ℕ → Type 0
AcceptedWith o s w u i = (a : Applied) × ((called s w o).answer ≡ done a) × (after a (called s w o) ≡ u) × (returned a (called s w o) ≡ i)

-- so it is with any cursor and counter and the record room, whatever it holds
abbrev pub Accepted : State → Whole ℕ → State → Whole ℕ → Type 0
Accepted s w u i = (o : Beside) → RecordRoom s o → AcceptedWith o s w u i

-- Whoever saw it accepted once, whatever was lent, has that.
abbrev pub AcceptedOnce : Type 0
AcceptedOnce = (o : Beside) (s : State) (w : Whole ℕ) (u : State) (i : Whole ℕ) → AcceptedWith o s w u i → Accepted s w u i

-- an edit that was accepted, with whatever slices sufficed, and to which `undoable` says yes at that moment
abbrev pub Undoable : State → Whole ℕ → State → Whole ℕ → Type 0
Undoable s w u i = (o : Beside) × AcceptedWith o s w u i × (undoable (view_at s o) w.edit (lent_at s w o) ≡ done true)

-- demand 3: "every returned inverse is accepted, and applying them last first gives back the text at each stage, character for character.
-- The inverses which those give, again applied last first, are accepted and rebuild the edited text at each stage."
-- Done is what is known of each edit of the run, Redo of each inverse applied and of each inverse of those.
pub record Undone {Done : State → Whole ℕ → State → Whole ℕ → Type 0} (Redo : State → Whole ℕ → State → Whole ℕ → Type 0) {s w : State} (r : Run Done s w) : Type 0 where
  pub origin : State
  pub back : Run Redo w origin
  pub back_edits : edits back ≡ reverse (inverses r)
  pub back_texts : map text (stages back) ≡ reverse (map text (stages r))
  pub final : State
  pub again : Run Redo origin final
  pub again_edits : edits again ≡ reverse (inverses back)
  pub again_texts : map text (stages again) ≡ map text (stages r)

-- demand 3: "Take a run of accepted edits"
abbrev pub Demand3 : Type 0
Demand3 = (s w : State) (r : Run Undoable s w) → Undone Accepted r
