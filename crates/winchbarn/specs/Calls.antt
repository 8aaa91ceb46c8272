-- What each function leaves for a caller of C: its answer in numbers, and every slice that it may write. What is called is the core's own
-- meaning; beside that stands what C needs: a kind by its number, and 10 where that is none.
use Rattle.std.specs.Prelude.{List, [], ℕ}
use Rattle.std.specs.Prelude.{Option, None, Some}
use Rattle.promise.specs.Paper.{refused}
use Rattle.utf8.specs.Calls.{Outcome, outcome}
use Rattle.text.specs.declared.Position.{Position}
use Rattle.edit.specs.declared.View.{View}
use Rattle.edit.specs.Edits.{whole}
use Rattle.edit.specs.Call.{Lent, lent, applied, undoable}
use Rattle.edit.specs.Call as edits
use Rattle.select.specs.declared.Sel.{Sel}
use Rattle.select.specs.Selections.{row_span, head_of, anchor_of, extended, row_bounds}
use Rattle.merge.specs.Call as merges
use Rattle.shift.specs.Call.{position_shifted, sel_shifted}
use Rattle.frame.specs.Format.{edit as edit_frame}
use Rattle.reader.specs.Calls.{Filled}
use Rattle.writer.specs.Calls.{written_into}
use Rattle.plain.specs.declared.Bounds.{Bounds}
use Rattle.plain.specs.declared.Change.{Change}
use Rattle.plain.specs.declared.Count.{Count}
use Rattle.plain.specs.declared.Cover.{Cover}
use Rattle.plain.specs.declared.EditLine.{EditLine}
use Rattle.plain.specs.declared.Found.{Found}
use Rattle.plain.specs.declared.Numbers.{Numbers}
use Rattle.plain.specs.declared.Said.{Said}
use Rattle.plain.specs.declared.SelFound.{SelFound}
use Rattle.plain.specs.Meanings.{item, meant, selections}
use Rattle.plain.specs.Told.{told_count, told_applied, found_at, not_found, found_sel, no_sel, no_cover, told_span, no_bounds, told_bounds, ends_of, told_yes}
use Rattle.told.specs.Shifts.{told_shifted, told_sel_shifted}
use Rattle.told.specs.Lines.{told_read}

-- ---- how much was written, and the slice at exit

pub record Counted : Type 0 where
  pub answer : Count
  pub out : List ℕ

abbrev pub counted : Count → List ℕ → Counted
counted a o = record { answer = a; out = o }

abbrev pub told_into : Outcome → Counted
told_into o = counted (told_count o.answer) o.out

abbrev pub told_merge : merges.Outcome → Counted
told_merge o = counted (told_count o.answer) o.out

-- ---- an edit's answer, and its slices at exit

pub record Changed : Type 0 where
  pub answer : Change
  pub text : List ℕ
  pub payload : List ℕ
  pub first : List ℕ
  pub second : List ℕ

abbrev pub changed : Change → List ℕ → List ℕ → List ℕ → List ℕ → Changed
changed a t x f s = record { answer = a; text = t; payload = x; first = f; second = s }

abbrev pub told_call : View → edits.Outcome → Changed
told_call v o = changed (told_applied v o.answer) o.text o.payload o.first o.second

-- the same, with the view that was lent as it then stands
pub record ChangedIn : Type 0 where
  pub changed : Changed
  pub view : View

abbrev pub changed_in : Changed → View → ChangedIn
changed_in c v = record { changed = c; view = v }

-- ---- the answer about an edit's line, and its slices at exit

pub record Framed : Type 0 where
  pub answer : EditLine
  pub payload : List ℕ
  pub first : List ℕ
  pub second : List ℕ

abbrev pub framed : EditLine → List ℕ → List ℕ → List ℕ → Framed
framed a x f s = record { answer = a; payload = x; first = f; second = s }

abbrev pub told_frame : Filled → Framed
told_frame o = framed (told_read o.answer) o.payload o.first o.second

-- ---- calls with a kind: b where it is none

abbrev pub of_kind : {A B : Type 0} → Option A → B → (A → B) → B
of_kind None b f = b
of_kind (Some a) b f = f a

-- "nothing lent changes"
abbrev pub edit_call : View → Numbers → Lent → Changed
edit_call v n l =
    told_call v (of_kind (meant n) (edits.outcome (refused 10 0) l.buffer l.out_payload l.out_first l.out_second) (λ e. applied v e l))

-- "one thin public entry takes the record lent and updates it where it stands": the view that the answer has, which is the old one where it is refused
abbrev pub edit_call_in : View → Numbers → Lent → ChangedIn
edit_call_in v n l = changed_in (edit_call v n l) (edit_call v n l).answer.view

abbrev pub line_call : Numbers → List ℕ → List ℕ → List ℕ → List ℕ → Counted
line_call n x f s out = told_into (of_kind (meant n) (outcome (refused 10 0) out) (λ e. written_into (edit_frame (whole e x f s)) out))

abbrev pub undoable_call : View → Numbers → List ℕ → List ℕ → List ℕ → List ℕ → Said
undoable_call v n b x f s = told_yes (of_kind (meant n) (refused 10 0) (λ e. undoable v e (lent b x f s [] [] [])))

abbrev pub shift_call : List ℕ → View → Numbers → List ℕ → List ℕ → List ℕ → Position → Found
shift_call b v n x f s p = told_shifted (of_kind (meant n) (refused 10 0) (λ e. position_shifted b v.used e x f s p))

abbrev pub sel_call : List ℕ → View → Numbers → List ℕ → List ℕ → List ℕ → Sel → SelFound
sel_call b v n x f s l = told_sel_shifted (of_kind (meant n) (refused 10 0) (λ e. sel_shifted b v.used e x f s l))

abbrev pub span_call : ℕ → Sel → ℕ → Cover
span_call k l row = of_kind (item (selections l) k) (no_cover 10) (λ s. told_span (row_span s row))

abbrev pub head_call : ℕ → Sel → Found
head_call k l = of_kind (item (selections l) k) (not_found 10) (λ s. found_at (head_of s))

abbrev pub anchor_call : ℕ → Sel → Found
anchor_call k l = of_kind (item (selections l) k) (not_found 10) (λ s. found_at (anchor_of s))

abbrev pub extend_call : ℕ → Sel → Position → SelFound
extend_call k l p = of_kind (item (selections l) k) (no_sel 10) (λ s. found_sel (ends_of (extended s p)))

abbrev pub bounds_call : ℕ → Sel → Bounds
bounds_call k l = of_kind (item (selections l) k) (no_bounds 10) (λ s. told_bounds (row_bounds s))
