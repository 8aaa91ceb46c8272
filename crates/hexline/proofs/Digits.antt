-- One digit, and the two of a byte.
use mathlib.Core.Path.{◌≡◌, refl}
use mathlib.Core.Bool.{Bool, true, not, ◌&&◌, ◌||◌}
use mathlib.Core.Logic.{◌⊎◌, inl, inr, ⊎_elim}
use Prim.Native.Nat.{ℕ, ◌+◌, ◌*◌, ◌≤◌, ◌<◌}
use native.Mathlib.Omega.{arith}
use borrow.Author.Tests.{leb-true, eqb-true}
use lib.Dec.{eqb, leb}
use Rattle.promise.proofs.Bools.{both, either}
use Rattle.utf8.specs.Rfc3629.{within}
use Rattle.utf8.proofs.Lead.{below, each}
use Rattle.hexline.specs.Digits.{is_digit, value_of, digit_of}

digit_range : (c : ℕ) → is_digit c ≡ true → ((48 ≤ c) × (c ≤ 57)) ⊎ ((97 ≤ c) × (c ≤ 102))
unfolding is_digit
digit_range c e =
    ⊎_elim (λ q. let k = both (leb 48 c) (leb c 57) q in inl (leb-true 48 c k.0, leb-true c 57 k.1))
    (λ q. let k = both (leb 97 c) (leb c 102) q in inr (leb-true 97 c k.0, leb-true c 102 k.1))
    (either (within (48, 57) c) (within (97, 102) c) e)

pub low_digit : (c : ℕ) → is_digit c ≡ true → c ≤ 57 → 48 ≤ c
low_digit c e h = ⊎_elim (λ q. q.0) (λ q. absurd (omega arith)) (digit_range c e)

pub high_digit : (c : ℕ) → is_digit c ≡ true → 57 < c → (97 ≤ c) × (c ≤ 102)
high_digit c e h = ⊎_elim (λ q. absurd (omega arith)) (λ q. q) (digit_range c e)

digit_byte : (c : ℕ) → is_digit c ≡ true → c < 256
digit_byte c e = ⊎_elim (λ q. omega arith) (λ q. omega arith) (digit_range c e)

-- a digit is that of its value, which is below 16
comes_back : ℕ → Bool
comes_back c = not (is_digit c) || (eqb (digit_of (value_of c)) c && leb (value_of c) 15)

come_back : below comes_back 256 ≡ true
unfolding comes_back is_digit value_of digit_of
come_back = refl

module _ (c : ℕ) (e : is_digit c ≡ true) where
  digit_known : (digit_of (value_of c) ≡ c) × (value_of c ≤ 15)
  unfolding comes_back
  digit_known =
      let k = both (eqb (digit_of (value_of c)) c) (leb (value_of c) 15) (rw e at (each comes_back 256 come_back c (digit_byte c e))) in
      (eqb-true _ _ k.0, leb-true _ _ k.1)

  pub digit_value : digit_of (value_of c) ≡ c
  digit_value = digit_known.0

  pub value-small : value_of c < 16
  value-small = let k = digit_known.1 in omega arith

pub pair_byte : (c d : ℕ) → is_digit c ≡ true → is_digit d ≡ true → value_of c * 16 + value_of d < 256
pair_byte c d e f = omega (arith, value-small c e, value-small d f)

-- each number below 16 has its digit
has_digit : ℕ → Bool
has_digit n = is_digit (digit_of n) && eqb (value_of (digit_of n)) n

have_digits : below has_digit 16 ≡ true
unfolding has_digit is_digit value_of digit_of
have_digits = refl

module _ (n : ℕ) (h : n < 16) where
  digit_of-small : (is_digit (digit_of n) ≡ true) × (eqb (value_of (digit_of n)) n ≡ true)
  unfolding has_digit
  digit_of-small = both (is_digit (digit_of n)) (eqb (value_of (digit_of n)) n) (each has_digit 16 have_digits n h)

  pub digit_good : is_digit (digit_of n) ≡ true
  digit_good = digit_of-small.0

  pub value-digit : value_of (digit_of n) ≡ n
  value-digit = eqb-true _ _ digit_of-small.1
