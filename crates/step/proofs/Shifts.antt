-- Marks over an edit that is accepted.
use mathlib.Core.Path.{◌≡◌, refl, sym, ap}
use mathlib.Core.Bool.{true}
use mathlib.Core.List.{List, [], ◌∷◌, map}
use Prim.Native.Nat.{ℕ}
use Rattle.promise.specs.Paper.{done}
use Rattle.promise.proofs.Bools.{T_true}
use Rattle.text.specs.Text.{text_ok}
use Rattle.edit.specs.Edits.{Whole}
use Rattle.edit.specs.Refusals.{small_ok, few_ok, payload_ok}
use Rattle.edit.specs.Call.{verdict_of, given_tests}
use Rattle.edit.proofs.Workers.{given_passed}
use Rattle.select.specs.declared.Sel.{Sel}
use Rattle.shift.specs.Answers.{Followed, to, dropped}
use Rattle.shift.specs.Call.{ordered_ok}
use Rattle.shift.proofs.Carrying.{kept-carries}
use Rattle.marking.specs.Carries.{carried_mark}
use Rattle.loading.specs.States.{State, text_in}
use Rattle.step.specs.Steps.{lent_to, carried}

-- an edit that rows 1 to 4 do not refuse, with its ends in order, carries marks as the worker does
module _ (s : State) (w : Whole ℕ) (g : verdict_of (given_tests s.view w.edit (lent_to s w)) ≡ done tt) (h : ordered_ok w.edit ≡ true) where
  abbrev over-edit : Followed Sel → Followed Sel
  over-edit m = carried_mark (text_in s) w.edit w.payload w.first m

  moved_mark : (m : Followed Sel) → carried s w m ≡ over-edit m
  unfolding carried carried_mark
  moved_mark (to m) =
      let p = given_passed s.view w.edit (lent_to s w) (sym g) in
      kept-carries s.buffer s.view.used w.edit w.payload w.first w.second m (T_true (text_ok s.buffer s.view.used) p.textual)
      (T_true (small_ok w.edit w.first w.second) p.smalls) (T_true (few_ok (text_in s) w.edit w.payload w.first w.second) p.fews)
      (T_true (payload_ok w.edit w.payload w.first) p.payloads) h
  moved_mark dropped = refl

  pub moved_marks : (ms : List (Followed Sel)) → map (carried s w) ms ≡ map over-edit ms
  moved_marks [] = refl
  moved_marks (m ∷ ms) = rw (moved_mark m) (ap (λ (l : List (Followed Sel)). over-edit m ∷ l) (moved_marks ms))
