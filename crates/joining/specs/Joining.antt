-- What the builders of joins go by: the rows of a text that is lent from a row on.
use mathlib.Core.Bool.{Bool, true, false, not}
use mathlib.Core.List.{List, [], ◌∷◌, ◌++◌}
use Prim.Native.Nat.{ℕ}
use lib.ListN.{length, take}
use Rattle.text.specs.Rows.{Line, line}
use Rattle.steps.specs.Steps.{Step}
use Rattle.steps.specs.Kinds.{join_steps}

module _ {A : Type 0} where
  unfoldable pub filled : List A → Bool
  filled [] = false
  filled (x ∷ p) = true

  -- up to n joins of the rows of a text to the first of them, which p stands before
  unfoldable pub join_from : A → Bool → List A → ℕ → List (Line A) → List (Step A)
  join_from space b p n [] = []
  join_from space b p n (r ∷ rs) = join_steps space b (line (p ++ r.body) r.after) (length r.body) (take n rs)

-- whether the first row has any
unfoldable pub opens : {A : Type 0} → (A → Bool) → List A → Bool
opens lf [] = false
opens lf (x ∷ t) = not (lf x)
