-- Lists whose elements all pass a test.
use mathlib.Core.Path.{◌≡◌}
use mathlib.Core.Bool.{Bool, true, not, ◌||◌}
use mathlib.Core.List.{List, [], ◌∷◌, ◌++◌}
use Prim.Native.Nat.{ℕ, zero, suc}
use lib.Dec.{T, eqb}
use lib.ListN.{take, drop, get_or, replicate, take-append-drop}
use Rattle.promise.proofs.Bools.{both, T-both, T-left, T-right}
use Rattle.utf8.specs.Rfc3629.{scalar, within}
use Rattle.utf8.specs.Reading.{all_scalar}
use Rattle.text.specs.Text.{admissible, all}

module _ {A : Type 0} (f : A → Bool) where
  pub all_append : (xs ys : List A) → T (all f xs) → T (all f ys) → T (all f (xs ++ ys))
  unfolding all
  all_append [] ys p q = q
  all_append (x ∷ xs) ys p q = T-both (f x) (all f (xs ++ ys)) (T-left (f x) (all f xs) p) (all_append xs ys (T-right (f x) (all f xs) p) q)

  pub all_left : (xs ys : List A) → T (all f (xs ++ ys)) → T (all f xs)
  unfolding all
  all_left [] ys p = tt
  all_left (x ∷ xs) ys p = T-both (f x) (all f xs) (T-left (f x) (all f (xs ++ ys)) p) (all_left xs ys (T-right (f x) (all f (xs ++ ys)) p))

  pub all_right : (xs ys : List A) → T (all f (xs ++ ys)) → T (all f ys)
  unfolding all
  all_right [] ys p = p
  all_right (x ∷ xs) ys p = all_right xs ys (T-right (f x) (all f (xs ++ ys)) p)

  pub all_take : (n : ℕ) (xs : List A) → T (all f xs) → T (all f (take n xs))
  all_take n xs p = all_left (take n xs) (drop n xs) (rw (take-append-drop n xs) p)

  pub all_drop : (n : ℕ) (xs : List A) → T (all f xs) → T (all f (drop n xs))
  all_drop n xs p = all_right (take n xs) (drop n xs) (rw (take-append-drop n xs) p)

  pub all_replicate : (n : ℕ) (x : A) → T (f x) → T (all f (replicate n x))
  unfolding all
  all_replicate zero x p = tt
  all_replicate (suc n) x p = T-both (f x) (all f (replicate n x)) p (all_replicate n x p)

-- the first, or 0, and the others
pub first_passes : (f : ℕ → Bool) (xs : List ℕ) → f 0 ≡ true → all f xs ≡ true → (f (get_or xs 0 0) ≡ true) × (all f (drop 1 xs) ≡ true)
unfolding all
first_passes f [] z e = (z, e)
first_passes f (x ∷ xs) z e = both (f x) (all f xs) e

-- a test that passes wherever another does
pub all_weaker : (f g : ℕ → Bool) → ((x : ℕ) → T (f x) → T (g x)) → (xs : List ℕ) → T (all f xs) → T (all g xs)
unfolding all
all_weaker f g h [] p = tt
all_weaker f g h (x ∷ xs) p = T-both (g x) (all g xs) (h x (T-left (f x) (all f xs) p)) (all_weaker f g h xs (T-right (f x) (all f xs) p))

-- what is admitted is a scalar
pub admitted_scalars : (xs : List ℕ) → T (all admissible xs) → T (all_scalar xs)
unfolding all admissible all_scalar
admitted_scalars [] p = tt
admitted_scalars (x ∷ xs) p =
    T-both (scalar x) (all_scalar xs) (T-left (scalar x) (not (within (0x0B, 0x0D) x || eqb x 0x85 || within (0x2028, 0x2029) x)) (T-left (admissible x) (all admissible xs) p))
    (admitted_scalars xs (T-right (admissible x) (all admissible xs) p))
