-- Steps in a slice, five numbers to each: the first of them, and those behind it that were built in the part lent.
use mathlib.Core.Path.{◌≡◌, refl, ap, ◌∙◌}
use mathlib.Core.Logic.{◌≢◌}
use mathlib.Core.List.{List, [], ◌∷◌, ◌++◌}
use Prim.Native.Nat.{ℕ, zero, suc, ◌+◌, ◌-◌, ◌*◌, ◌≤◌, ◌<◌, min}
use native.Mathlib.Nat.{zero-add}
use native.Mathlib.Numerals.{add-one}
use native.Mathlib.Omega.{arith}
use lib.ListN.{length, take, drop, set, length-drop}
use Rattle.promise.proofs.Lists.{tail_whole, tail_back}
use Rattle.text.specs.Text.{text_limit}
use Rattle.steps.specs.Steps.{Step, step, ahead}
use Rattle.steps.specs.Numbers.{steps_of, come_by}

-- the first item of a list, and the rest
pub skip_one : (ds : List ℕ) (k : ℕ) → k ≡ min (length ds) 1 → drop k ds ≡ drop 1 ds
skip_one [] k e = let z : k ≡ 0 = omega arith in rw z
skip_one (d ∷ ds) k e = let z : k ≡ 1 = omega arith in rw z

-- nothing before them
pub ahead_none : (ss : List (Step ℕ)) → ahead 0 ss ≡ ss
unfolding ahead
ahead_none [] = refl
ahead_none (s ∷ ss) = rw (zero-add s.keep)

-- the slice once the part behind the first five came back as y
abbrev pub behind_five : List ℕ → List ℕ → List ℕ
behind_five l y = take 5 l ++ (y ++ drop (length l - 5) (drop 5 l))

pub no_steps : (l x : List ℕ) {n : ℕ} → n ≡ 0 → steps_of n l x ≡ []
unfolding steps_of
no_steps l x e = rw e

pub none_come : (l : List ℕ) {n : ℕ} → n ≡ 0 → come_by n l ≡ 0
unfolding come_by
none_come l e = rw e

module _ {l₁ r : List ℕ} {a b c d e : ℕ} (q : l₁ ≡ a ∷ b ∷ c ∷ d ∷ e ∷ r) where
  pub first_step : (x : List ℕ) → steps_of 1 l₁ x ≡ step a b c e (take d x) ∷ []
  unfolding steps_of
  first_step x = rw q

  pub first_comes : come_by 1 l₁ ≡ d
  unfolding come_by
  first_comes = rw q (omega arith)

  back : (y : List ℕ) → behind_five l₁ y ≡ a ∷ b ∷ c ∷ d ∷ e ∷ y
  back y = ap (λ (s : List ℕ). behind_five s y) q ∙ tail_back (a ∷ b ∷ c ∷ d ∷ e ∷ r) y 5

  pub next_steps : (y : List ℕ) (m : ℕ) (x : List ℕ) → steps_of (m + 1) (behind_five l₁ y) x ≡ step a b c e (take d x) ∷ steps_of m y (drop d x)
  unfolding steps_of
  next_steps y m x = ap (λ (s : List ℕ). steps_of (m + 1) s x) (back y) ∙ ap (λ (i : ℕ). steps_of i (a ∷ b ∷ c ∷ d ∷ e ∷ y) x) (add-one m)

  pub next_come : (y : List ℕ) (m : ℕ) → come_by (m + 1) (behind_five l₁ y) ≡ d + come_by m y
  unfolding come_by
  next_come y m = ap (come_by (m + 1)) (back y) ∙ ap (λ (i : ℕ). come_by i (a ∷ b ∷ c ∷ d ∷ e ∷ y)) (add-one m)

-- another number of elements that stay
pub come_set : (l : List ℕ) (k v : ℕ) → come_by k (set l 0 v) ≡ come_by k l
unfolding come_by
come_set l zero v = refl
come_set [] (suc k) v = refl
come_set (a ∷ l) (suc k) v = refl

-- ---- what a call on the parts behind asks for

module _ {k : ℕ} (z : k ≢ 0) where
  pub fewer : {m : ℕ} → k ≡ m → k - 1 < m
  fewer e = omega arith

  pub fewer_upto : {m : ℕ} → k ≤ m → k - 1 ≤ m
  fewer_upto h = omega arith

  pub fewer_of : (ws : List ℕ) → k ≡ length ws → k - 1 ≡ length (take (length ws - 1) (drop 1 ws))
  fewer_of ws e = rw (tail_whole ws 1, length-drop 1 ws) (ap (λ (i : ℕ). i - 1) e)

  fewer_fives : (l : List ℕ) → 5 * k ≤ length l → 5 * (k - 1) ≤ length (take (length l - 5) (drop 5 l))
  fewer_fives l h = rw (tail_whole l 5, length-drop 5 l) (omega arith)

  pub fives_behind : (l : List ℕ) {l₁ : List ℕ} {a b c d e : ℕ} → l₁ ≡ a ∷ b ∷ c ∷ d ∷ e ∷ drop 5 l → 5 * k ≤ length l → 5 * (k - 1) ≤ length (take (length l₁ - 5) (drop 5 l₁))
  fives_behind l {l₁} q h = fewer_fives l₁ (omega (arith, ap length q, length-drop 5 l))

pub text-behind : (t : List ℕ) (n w carry : ℕ) → n + 1 ≤ length t → carry + length t ≤ text_limit → n - w + 1 + length (take (length t - (n + 1)) (drop (n + 1) t)) ≤ text_limit
text-behind t n w carry h j = rw (tail_whole t (n + 1), length-drop (n + 1) t) (omega arith)
