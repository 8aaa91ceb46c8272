-- Runs made by computation: the states that edits lead through, one after another.
use mathlib.Core.Path.{◌≡◌, refl, ap}
use mathlib.Core.List.{List, [], ◌∷◌}
use Prim.Native.Nat.{ℕ}
use Rattle.edit.specs.Edits.{Whole}
use Rattle.edit.specs.Runs.{Run, stop, step, edits, stages}
use Rattle.edit.specs.Demand3.{State}
use Rattle.edit.proofs.Calls.{next}

unfoldable pub states_from : State → List (Whole ℕ) → List State
states_from s [] = s ∷ []
states_from s (w ∷ ws) = s ∷ states_from (next s w) ws

unfoldable pub last_from : State → List (Whole ℕ) → State
last_from s [] = s
last_from s (w ∷ ws) = last_from (next s w) ws

pub record Ran (Step : State → Whole ℕ → State → Whole ℕ → Type 0) (s : State) (ws : List (Whole ℕ)) : Type 0 where
  pub run : Run Step s (last_from s ws)
  pub its_edits : edits run ≡ ws
  pub its_states : stages run ≡ states_from s ws

module _ {Step : State → Whole ℕ → State → Whole ℕ → Type 0} where
  unfoldable pub ran-none : (s : State) → Ran Step s []
  unfolding edits stages last_from states_from
  ran-none s = record { run = stop; its_edits = refl; its_states = refl }

  unfoldable pub ran-more : {s : State} {w : Whole ℕ} {ws : List (Whole ℕ)} (i : Whole ℕ) → Step s w (next s w) i → Ran Step (next s w) ws → Ran Step s (w ∷ ws)
  unfolding edits stages last_from states_from
  ran-more {s} {w} i h r = record {
    run = step h r.run;
    its_edits = ap {B = List (Whole ℕ)} (λ l. w ∷ l) r.its_edits;
    its_states = ap {B = List State} (λ l. s ∷ l) r.its_states;
  }
