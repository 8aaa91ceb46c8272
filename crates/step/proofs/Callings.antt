-- An edit line as a call.
use mathlib.Core.Path.{◌≡◌, refl}
use mathlib.Core.Bool.{true}
use mathlib.Core.List.{List, ◌∷◌, map}
use Prim.Native.Nat.{ℕ}
use native.Mathlib.Omega.{arith}
use lib.ListN.{length, replicate, length-replicate}
use Rattle.promise.specs.Paper.{Paper, done}
use Rattle.edit.specs.declared.Applied.{Applied}
use Rattle.edit.specs.Edits.{Whole}
use Rattle.edit.specs.Call.{Outcome, undoable}
use Rattle.edit.specs.Demand3.{State as Core, Beside, RecordRoom, called, after, returned, Accepted, Undoable}
use Rattle.edit.proofs.Calls.{accepted-once}
use Rattle.hexline.specs.Digits.{hexed}
use Rattle.frame.specs.Format.{edit, frame_bytes}
use Rattle.printing.specs.Prints.{printed_as}
use Rattle.marking.proofs.Orders.{applied-same}
use Rattle.loading.specs.States.{State}
use Rattle.step.specs.Steps.{lent_to, carried, answered, ran, ordered, edited}
use Rattle.step.proofs.Framing.{core}

-- what the call is handed beside
abbrev pub beside : State → Beside
beside s = record { cursor = s.view.cursor; changes = s.view.changes; payload = replicate (length s.buffer) 0; first = replicate 256 0; second = replicate 256 0 }

abbrev pub lined : Whole ℕ → List ℕ
lined w = hexed (frame_bytes (edit w))

zeros : (n : ℕ) → length {A = ℕ} (replicate n 0) ≡ n
zeros n = length-replicate {A = ℕ} n 0

module _ (s : State) (w : Whole ℕ) where
  abbrev o : Outcome
  o = called (core s) w (beside s)

  pub edited-called : (p : Paper Applied) → o.answer ≡ p → edited s w ≡ answered s (ordered w) o p
  unfolding ran
  edited-called p e = rw (applied-same s.view w.edit (lent_to s w), e)

  room : RecordRoom (core s) (beside s)
  room =
      let p = zeros (length s.buffer) in
      let l = zeros 256 in
      record { payload = omega (arith, p); first = omega (arith, l); second = omega (arith, l) }

  -- what an accepted edit leaves and prints
  pub record Leaves (u : Core) (i : Whole ℕ) : Type 0 where
    pub state : core (edited s w).state ≡ u
    pub prints : (edited s w).printed ≡ printed_as (0 ∷ frame_bytes (edit i))
    pub marks : (edited s w).state.marks ≡ map (carried s (ordered w)) s.marks

  pub accepted-leaves : (u : Core) (i : Whole ℕ) → Accepted (core s) w u i → Leaves u i
  unfolding answered
  accepted-leaves u i h =
      let c = h (beside s) room in
      let e = edited-called (done c.0) c.1 in
      record { state = rw e c.2; prints = rw (e, c.3); marks = rw e }

  -- an accepted call is an accepted edit, with what the call returned
  pub once : (a : Applied) → o.answer ≡ done a → Accepted (core s) w (after a o) (returned a o)
  once a e = accepted-once (beside s) (core s) w (after a o) (returned a o) (a, e, refl, refl)

  pub undoable-called : undoable s.view w.edit (lent_to s w) ≡ done true → (u : Core) (i : Whole ℕ) → Accepted (core s) w u i → Undoable (core s) w u i
  undoable-called h u i a = (beside s, a (beside s) room, h)
