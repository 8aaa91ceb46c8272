-- Character numbers: the table of section 3, row by row.
use mathlib.Core.Path.{◌≡◌, refl}
use mathlib.Core.Bool.{Bool, true, false, ◌||◌, or-true}
use mathlib.Core.List.{[], ◌∷◌}
use mathlib.Core.Logic.{◌⊎◌, inl, inr, ⊎_elim}
use Prim.Native.Nat.{ℕ, ◌+◌, ◌/◌, ◌%◌, ◌≤◌, ◌<◌}
use native.Mathlib.Omega.{arith}
use borrow.Author.Tests.{le-leb, lt-leb, leb-true, leb-false}
use lib.Dec.{leb}
use lib.ListN.{length}
use Rattle.utf8.specs.Rfc3629.{within, scalar, octets}
use Rattle.promise.proofs.Bools.{both}

pub within-true : (l h x : ℕ) → l ≤ x → x ≤ h → within (l, h) x ≡ true
within-true l h x p q = rw (le-leb l x p, le-leb x h q)

pub scalar-low : (c : ℕ) → c ≤ 0xD7FF → scalar c ≡ true
unfolding scalar
scalar-low c h = rw (le-leb c 0xD7FF h)

pub scalar-high : (c : ℕ) → 0xE000 ≤ c → c ≤ 0x10FFFF → scalar c ≡ true
unfolding scalar
scalar-high c h k = rw (within-true 0xE000 0x10FFFF c h k, or-true)

pub scalar-ranges : (c : ℕ) → scalar c ≡ true → (c ≤ 0xD7FF) ⊎ ((0xE000 ≤ c) × (c ≤ 0x10FFFF))
unfolding scalar
scalar-ranges c e = go (leb c 0xD7FF) refl e
  where
    go : (b : Bool) → leb c 0xD7FF ≡ b → (b || within (0xE000, 0x10FFFF) c) ≡ true → (c ≤ 0xD7FF) ⊎ ((0xE000 ≤ c) × (c ≤ 0x10FFFF))
    go true t e = inl (leb-true _ _ t)
    go false t e = let w = both (leb 0xE000 c) (leb c 0x10FFFF) e in inr (leb-true _ _ w.0, leb-true _ _ w.1)

pub scalar-le : (c : ℕ) → scalar c ≡ true → c ≤ 0x10FFFF
scalar-le c e = ⊎_elim (λ h. omega arith) (λ h. h.1) (scalar-ranges c e)

pub at_most : (c k : ℕ) → (c ≤ k) ⊎ (k < c)
at_most c k = go (leb c k) refl
  where
    go : (b : Bool) → leb c k ≡ b → (c ≤ k) ⊎ (k < c)
    go true e = inl (leb-true c k e)
    go false e = inr (leb-false c k e)

module _ (c : ℕ) where
  pub octets-1 : c ≤ 0x7F → octets c ≡ c ∷ []
  unfolding octets
  octets-1 h = rw (le-leb c 0x7F h)

  pub octets-2 : 0x7F < c → c ≤ 0x7FF → octets c ≡ (0b110_00000 + c / 64) ∷ (0b10_000000 + c % 64) ∷ []
  unfolding octets
  octets-2 l h = rw (lt-leb c 0x7F l, le-leb c 0x7FF h)

  pub octets-3 : 0x7FF < c → c ≤ 0xFFFF → octets c ≡ (0b1110_0000 + c / 64 / 64) ∷ (0b10_000000 + c / 64 % 64) ∷ (0b10_000000 + c % 64) ∷ []
  unfolding octets
  octets-3 l h = rw (lt-leb c 0x7F (omega arith), lt-leb c 0x7FF l, le-leb c 0xFFFF h)

  pub octets-4 : 0xFFFF < c
      → octets c ≡ (0b11110_000 + c / 64 / 64 / 64) ∷ (0b10_000000 + c / 64 / 64 % 64) ∷ (0b10_000000 + c / 64 % 64) ∷ (0b10_000000 + c % 64) ∷ []
  unfolding octets
  octets-4 l = rw (lt-leb c 0x7F (omega arith), lt-leb c 0x7FF (omega arith), lt-leb c 0xFFFF l)

  -- one to four octets
  pub octets-len : (1 ≤ length (octets c)) × (length (octets c) ≤ 4)
  octets-len =
      ⊎_elim (λ h. rw (octets-1 h) (omega arith))
      (λ l. ⊎_elim (λ h. rw (octets-2 l h) (omega arith))
      (λ m. ⊎_elim (λ h. rw (octets-3 m h) (omega arith))
      (λ n. rw (octets-4 n) (omega arith)) (at_most c 0xFFFF)) (at_most c 0x7FF)) (at_most c 0x7F)
