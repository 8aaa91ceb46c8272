-- What the functions of a step leave in the script's record and in the slices lent to them.
use Rattle.std.specs.Prelude.{true, List, map, ◌≡◌, ℕ, ◌≤◌, length, take, Option}
use Rattle.promise.specs.Slices.{over}
use Rattle.text.specs.Text.{text_ok}
use Rattle.edit.specs.declared.Applied.{Applied}
use Rattle.edit.specs.Edits.{Whole, whole}
use Rattle.place.specs.Places.{mark_limit}
use Rattle.select.specs.declared.Sel.{Sel}
use Rattle.marking.specs.Slots.{marks_over}
use Rattle.loading.specs.declared.Script.{Script}
use Rattle.loading.specs.declared.Progress.{Progress}
use Rattle.loading.specs.States.{State, script_of, state_of, buffer_limit}
use Rattle.loading.specs.Loads.{Stepped}
use Rattle.step.specs.Steps.{carried, step}

-- What holds between two lines: the text is admitted and in a buffer of at most 4,096, and the marks' slice has room for all marks.
pub record Ready (c : Script) (text : List ℕ) (marks : List (Option Sel)) : Type 0 where
  pub admitted : text_ok text c.view.used ≡ true
  pub small : length text ≤ buffer_limit
  pub room : length marks ≡ mark_limit
  pub few : c.place.marks ≤ mark_limit

-- the script and the count at return, and every slice at exit
pub record Left : Type 0 where
  pub script : Script
  pub printed : ℕ
  pub text : List ℕ
  pub marks : List (Option Sel)
  pub out : List ℕ

abbrev pub left : Progress → List ℕ → List (Option Sel) → List ℕ → Left
left r t m o = record { script = r.script; printed = r.printed; text = t; marks = m; out = o }

-- what a step leaves in slices that held m and o
abbrev pub leaves : Stepped → List (Option Sel) → List ℕ → Left
leaves x m o =
    record { script = script_of x.state; printed = length x.printed; text = x.state.buffer; marks = marks_over x.state.marks m; out = over x.printed o }

abbrev pub step_leaves : Script → List ℕ → List ℕ → List (Option Sel) → List ℕ → Left
step_leaves c l t m o = leaves (step (state_of c t m) l) m o

-- the marks' slice over an edit that is accepted
abbrev pub carried_in : State → Whole ℕ → List (Option Sel) → List (Option Sel)
carried_in s w m = marks_over (map (carried s w) s.marks) m

-- the inverse as an accepted call left it in slices
abbrev pub inverse_in : Applied → List ℕ → List ℕ → List ℕ → Whole ℕ
inverse_in a x f s = whole a.inverse (take a.payload x) (take a.first f) (take a.second s)
