-- Rows of numbers as a text has them.
use mathlib.Core.Path.{◌≡◌, ap}
use mathlib.Core.Bool.{Bool, true, not}
use mathlib.Core.List.{List, [], ◌∷◌}
use Prim.Native.Nat.{ℕ, zero, suc, ◌<◌}
use native.Mathlib.Omega.{arith}
use borrow.Author.Tests.{eqb-true}
use lib.ListN.{length, drop, get_or}
use Rattle.text.specs.Rows.{Line, line}
use Rattle.text.specs.Text.{is_lf}
use Rattle.text.proofs.Broken.{Unbroken, Broken, final, next}

abbrev pub not_lf : ℕ → Bool
not_lf c = not (is_lf c)

abbrev pub Plain : List ℕ → Type 0
Plain x = Unbroken is_lf x

abbrev pub Ended : List (Line ℕ) → Type 0
Ended rs = Broken is_lf rs

-- what ends a row is 10
lf_is : (x : ℕ) → is_lf x ≡ true → x ∷ [] ≡ 10 ∷ []
lf_is x q = ap {B = List ℕ} (λ y. y ∷ []) (eqb-true x 10 q)

pub ended_lf : {z y : Line ℕ} {C : List (Line ℕ)} → Ended (z ∷ y ∷ C) → (z.after ≡ 10 ∷ []) × Ended (y ∷ C)
ended_lf (next b x p q h) = (lf_is x q, h)

pub ended_at : (k : ℕ) {x : Line ℕ} {B : List (Line ℕ)} → Ended (x ∷ B) → k < length B → ((get_or (x ∷ B) k (line [] [])).after ≡ 10 ∷ []) × Ended (drop k B)
ended_at zero (final b p) l = absurd (omega arith)
ended_at zero (next b x p q h) l = (lf_is x q, h)
ended_at (suc k) (final b p) l = absurd (omega arith)
ended_at (suc k) (next b x p e (final c q)) l = absurd (omega arith)
ended_at (suc k) (next b x p e (next c y q f h)) l = ended_at k (next c y q f h) (omega arith)
