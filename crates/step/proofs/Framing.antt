-- What a line that is read does.
use mathlib.Core.Path.{◌≡◌}
use mathlib.Core.Bool.{false}
use mathlib.Core.List.{List}
use Prim.Native.Nat.{ℕ}
use Rattle.promise.specs.Paper.{done}
use Rattle.edit.specs.Edits.{Whole}
use Rattle.edit.specs.Demand3.{State as Core}
use Rattle.frame.specs.Format.{Frame, text, edit}
use Rattle.frame.specs.Forms.{line_form}
use Rattle.frame.specs.Reads.{frame_read}
use Rattle.place.specs.Places.{placed, seen}
use Rattle.place.proofs.InPlace.{edit_placed, text-placed}
use Rattle.loading.specs.States.{State, text_in}
use Rattle.loading.specs.Loads.{loaded, framed_by}
use Rattle.step.specs.Steps.{edited, framed, sees, step}

-- the text's part of a state
abbrev pub core : State → Core
core s = record { used = s.view.used; buffer = s.buffer }

-- the state once the line has been seen
abbrev pub saw : State → List ℕ → State
saw s l = sees s (seen s.place (line_form l))

module _ (s : State) (l : List ℕ) where
  placed-step : (f : Frame) → frame_read l ≡ done f → placed s.place (text_in s) (line_form l) ≡ line_form l → step s l ≡ framed (saw s l) (done f)
  unfolding step
  placed-step f e h = rw (h, e)

  pub edit_step : (w : Whole ℕ) → frame_read l ≡ done (edit w) → step s l ≡ edited (saw s l) w
  unfolding framed_by
  edit_step w e = placed-step (edit w) e (edit_placed s.place (text_in s) (line_form l) w e)

  pub text-step : (cs : List ℕ) → s.place.sound ≡ false → frame_read l ≡ done (text cs) → step s l ≡ loaded (saw s l) cs
  unfolding framed_by
  text-step cs n e = placed-step (text cs) e (text-placed s.place (text_in s) (line_form l) cs n e)
