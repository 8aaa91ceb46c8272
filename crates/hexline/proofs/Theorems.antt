-- The theorems that specs/Theorems.antt states.
use mathlib.Core.Path.{◌≡◌, refl, ap}
use mathlib.Core.Bool.{true, cond, ◌&&◌}
use mathlib.Core.List.{[], ◌∷◌}
use Prim.Native.Nat.{ℕ, ◌+◌, ◌*◌, ◌/◌, ◌%◌, ◌≤◌}
use native.Mathlib.Omega.{arith}
use borrow.Author.Tests.{le-leb, leb-true}
use lib.Dec.{eqb, leb}
use Rattle.promise.specs.Paper.{Paper, done, refused}
use Rattle.promise.proofs.Bools.{both, both_true, clash}
use Rattle.promise.proofs.Settled.{settled as settles}
use Rattle.text.specs.Text.{all}
use Rattle.hexline.specs.Digits.{is_digit, value_of, digit_of, hexed, unhexed, paired}
use Rattle.hexline.specs.Calls.{paper_unhexed, paper_hexed}
use Rattle.hexline.specs.Theorems.{UnhexesHexed, HexesUnhexed, TwoDigits, Settled}
use Rattle.hexline.proofs.Digits.{digit_value, value-small, pair_byte, digit_good, value-digit}
use Rattle.hexline.proofs.Pairs.{hexed-length}
use Rattle.std.specs.Prelude.{Result, Ok, Err}
use Rattle.utf8.specs.declared.NoRoom.{NoRoom}
use Rattle.hexline.specs.declared.UnhexError.{UnhexError}
use Rattle.hexline.specs.declared.UnhexError.TheVariants as unhex_error

-- one byte, from its two digits and back
module _ (b : ℕ) (h : b ≤ 255) where
  byte_back : value_of (digit_of (b / 16)) * 16 + value_of (digit_of (b % 16)) ≡ b
  byte_back = rw (value-digit (b / 16) (omega arith), value-digit (b % 16) (omega arith)) (omega arith)

  byte_digits : (is_digit (digit_of (b / 16)) && is_digit (digit_of (b % 16))) ≡ true
  byte_digits = both_true (digit_good (b / 16) (omega arith)) (digit_good (b % 16) (omega arith))

module _ (c d : ℕ) (e : is_digit c ≡ true) (f : is_digit d ≡ true) where
  high_back : digit_of ((value_of c * 16 + value_of d) / 16) ≡ c
  high_back = let n : (value_of c * 16 + value_of d) / 16 ≡ value_of c = omega (arith, value-small d f) in rw n (digit_value c e)

  low_back : digit_of ((value_of c * 16 + value_of d) % 16) ≡ d
  low_back = let n : (value_of c * 16 + value_of d) % 16 ≡ value_of d = omega (arith, value-small d f) in rw n (digit_value d f)

pub unhexes_hexed : UnhexesHexed
unfolding all hexed unhexed paired
unhexes_hexed [] e = (refl, refl)
unhexes_hexed (b ∷ bs) e =
    let s = both (leb b 255) (all (λ b. leb b 255) bs) e in
    let h : b ≤ 255 = leb-true b 255 s.0 in
    let r = unhexes_hexed bs s.1 in
    (both_true (byte_digits b h) r.0, rw (byte_back b h, r.1))

pub hexes_unhexed : HexesUnhexed
unfolding all hexed unhexed paired
hexes_unhexed [] e = (refl, refl)
hexes_unhexed (c ∷ []) e = absurd (clash e refl)
hexes_unhexed (c ∷ d ∷ s) e =
    let p = both (is_digit c && is_digit d) (paired s) e in
    let q = both (is_digit c) (is_digit d) p.0 in
    let r = hexes_unhexed s p.1 in
    let b : value_of c * 16 + value_of d ≤ 255 = omega (arith, pair_byte c d q.0 q.1) in
    (both_true (le-leb _ 255 b) r.0, rw (high_back c d q.0 q.1, low_back c d q.0 q.1, r.1))

pub two_digits : TwoDigits
two_digits = hexed-length

unhexed_back : Paper ℕ → Result ℕ UnhexError
unhexed_back (done n) = Ok n
unhexed_back (refused n k) = cond (eqb n 8) (Err unhex_error.NoRoom) (Err unhex_error.BadFrame)

unhexed-back : (x : Result ℕ UnhexError) → unhexed_back (paper_unhexed x) ≡ x
unfolding unhexed_back
unhexed-back (Ok n) = refl
unhexed-back (Err unhex_error.BadFrame) = refl
unhexed-back (Err unhex_error.NoRoom) = refl

hexed_back : Paper ℕ → Result ℕ NoRoom
hexed_back (done n) = Ok n
hexed_back (refused n k) = Err (record {})

hexed-back : (x : Result ℕ NoRoom) → hexed_back (paper_hexed x) ≡ x
unfolding hexed_back
hexed-back (Ok n) = refl
hexed-back (Err e) = refl

pub settled : Settled
settled =
    record {
      unhex = settles (λ o. (unhexed_back o.answer, o.out)) (λ x. ap (λ (u : Result ℕ UnhexError). (u, x.1)) (unhexed-back x.0));
      hex = settles (λ o. (hexed_back o.answer, o.out)) (λ x. ap (λ (u : Result ℕ NoRoom). (u, x.1)) (hexed-back x.0));
    }
