-- What rules out wrong steps: each line is what the promise asks for at one line of a script, and above it stands the program that leaves
-- something else there. 0 is 48, 5 is 53, LF is 10.
use Rattle.std.specs.Prelude.{◌≡◌, true, false, List, [], ◌∷◌, ◌++◌, ℕ, take, replicate}
use Rattle.text.specs.Rows.{at}
use Rattle.select.specs.Sels.{sel}
use Rattle.hexline.specs.Digits.{hexed}
use Rattle.frame.specs.Numbers.{position}
use Rattle.shift.specs.Answers.{to}
use Rattle.loading.specs.States.{State, state}
use Rattle.loading.specs.Loads.{Stepped}
use Rattle.step.specs.Steps.{step}

-- "ab" in a buffer of 250 places, and a mark on b
abbrev pub ab : State
ab = state (record { used = 2; cursor = at 0 0; changes = 0 }) (0x61 ∷ 0x62 ∷ replicate 248 0) (record { sound = true; marks = 1; edited = false }) (to (sel (at 0 1) (at 0 2)) ∷ [])

-- the line of a frame with these bytes
abbrev pub step_of : List ℕ → Stepped
step_of bytes = step ab (hexed bytes)

pub record RuledOut : Type 0 where
  -- an accepted edit not seen, so that a mark behind it is taken
  pub edited : (step_of (0x10 ∷ (position (at 0 0) ++ (0x58 ∷ [])))).state.place ≡ record { sound = true; marks = 1; edited = true }
  -- a string that is not UTF-8 printed as a malformed line
  pub bad_utf8 : (step_of (0x10 ∷ (position (at 0 0) ++ (0xFF ∷ [])))).printed ≡ 48 ∷ 53 ∷ 10 ∷ []
  -- a cut named backwards that marks are shifted over as the line has it
  pub backwards : (step_of (0x11 ∷ 0 ∷ (position (at 0 1) ++ position (at 0 0)))).state.marks ≡ to (sel (at 0 0) (at 0 1)) ∷ []
  -- a line of 538 digits, a block of 65 empty chunks, read into the arrays for lines of 512
  pub long : (step_of (0x15 ∷ (position (at 0 0) ++ replicate 260 0))).state.view.changes ≡ 1
  -- room for 255 items in an inverse's first list: a block of 256 rows
  pub many_rows : take 2 (step_of (0x11 ∷ 2 ∷ (position (at 0 0) ++ position (at 255 0)))).printed ≡ 48 ∷ 48 ∷ []
