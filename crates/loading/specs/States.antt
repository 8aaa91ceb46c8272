-- What a script has between two lines.
use Rattle.std.specs.Prelude.{List, [], false, ℕ, Option, take, replicate}
use Rattle.text.specs.Rows.{at}
use Rattle.edit.specs.declared.View.{View}
use Rattle.select.specs.declared.Sel.{Sel}
use Rattle.shift.specs.Answers.{Followed}
use Rattle.place.specs.declared.Place.{Place}
use Rattle.marking.specs.Slots.{marks_in}
use Rattle.loading.specs.declared.Script.{Script}

-- the view and the buffer of its text, what has been seen, and the marks in the order read
pub record State : Type 0 where
  pub view : View
  pub buffer : List ℕ
  pub place : Place
  pub marks : List (Followed Sel)

abbrev pub state : View → List ℕ → Place → List (Followed Sel) → State
state v b p ms = record { view = v; buffer = b; place = p; marks = ms }

abbrev pub text_in : State → List ℕ
text_in s = take s.view.used s.buffer

-- "reads standard input into a 4,096-character buffer"; "Without a text frame the text is empty."
abbrev pub buffer_limit : ℕ
buffer_limit = 4_096

abbrev pub opening : State
opening = state (record { used = 0; cursor = at 0 0; changes = 0 }) (replicate buffer_limit 0) (record { sound = false; marks = 0; edited = false }) []

-- the state that a script's record and its two slices hold
abbrev pub state_of : Script → List ℕ → List (Option Sel) → State
state_of c text marks = state c.view text c.place (marks_in c.place.marks marks)

abbrev pub script_of : State → Script
script_of s = record { view = s.view; place = s.place }
