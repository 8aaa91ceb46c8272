-- What the answer to a line of digits tells of the line.
use mathlib.Core.Path.{◌≡◌, refl, ap}
use mathlib.Core.Bool.{Bool, true, false, cond}
use mathlib.Core.List.{List}
use Prim.Native.Nat.{ℕ, ◌*◌, ◌≤◌, ◌<◌}
use native.Mathlib.Omega.{arith}
use borrow.Author.Tests.{leb-true, ltb-true}
use lib.Dec.{leb, ltb}
use lib.ListN.{length}
use Rattle.promise.specs.Paper.{Paper, done, refused}
use Rattle.promise.specs.Slices.{over}
use Rattle.promise.proofs.Bools.{both}
use Rattle.utf8.specs.Calls.{Outcome, outcome, stored}
use Rattle.hexline.specs.Digits.{digit_limit, unhexed, paired, line_ok}
use Rattle.hexline.specs.Calls.{bytes_into}
use Rattle.hexline.proofs.Pairs.{unhexed-length}

abbrev number_of : Paper ℕ → ℕ
number_of (done n) = 0
number_of (refused n k) = n

-- by whether it is a line, and whether its bytes, m, are too many for the slice
abbrev leaves : Bool → Bool → ℕ → List ℕ → List ℕ → Outcome
leaves ok full m bs out = cond ok (cond full (outcome (refused 8 0) out) (outcome (done m) bs)) (outcome (refused 10 0) out)

module _ (m : ℕ) (o bs out : List ℕ) where
  bytes_by : (n : ℕ) (ok full : Bool) → outcome (done n) o ≡ leaves ok full m bs out → (ok ≡ true) × (n ≡ m) × (o ≡ bs)
  bytes_by n true true e = let z : ◌≡◌ {A = ℕ} 0 8 = ap (λ x. number_of x.answer) e in absurd (omega arith)
  bytes_by n true false e = let q : ◌≡◌ {A = Paper ℕ} (done n) (done m) = ap (λ x. x.answer) e in (refl, cc, ap (λ x. x.out) e)
  bytes_by n false full e = let z : ◌≡◌ {A = ℕ} 0 10 = ap (λ x. number_of x.answer) e in absurd (omega arith)

  bad_by : (ok full : Bool) → outcome (refused 10 0) o ≡ leaves ok full m bs out → ok ≡ false
  bad_by true true e = let z : ◌≡◌ {A = ℕ} 10 8 = ap (λ x. number_of x.answer) e in absurd (omega arith)
  bad_by true false e = let z : ◌≡◌ {A = ℕ} 10 0 = ap (λ x. number_of x.answer) e in absurd (omega arith)
  bad_by false full e = refl

  full_by : (ok full : Bool) → outcome (refused 8 0) o ≡ leaves ok full m bs out → (ok ≡ true) × (full ≡ true)
  full_by true true e = (refl, refl)
  full_by true false e = let z : ◌≡◌ {A = ℕ} 8 0 = ap (λ x. number_of x.answer) e in absurd (omega arith)
  full_by false full e = let z : ◌≡◌ {A = ℕ} 8 10 = ap (λ x. number_of x.answer) e in absurd (omega arith)

module _ (l out o : List ℕ) where
  pub told_bytes : (n : ℕ) → outcome (done n) o ≡ bytes_into l out → (line_ok l ≡ true) × (n ≡ length (unhexed l)) × (o ≡ over (unhexed l) out)
  unfolding bytes_into stored
  told_bytes n e = bytes_by (length (unhexed l)) o (over (unhexed l) out) out n (line_ok l) (ltb (length out) (length (unhexed l))) e

  pub told_bad : outcome (refused 10 0) o ≡ bytes_into l out → line_ok l ≡ false
  unfolding bytes_into stored
  told_bad e = bad_by (length (unhexed l)) o (over (unhexed l) out) out (line_ok l) (ltb (length out) (length (unhexed l))) e

  -- a slice that has room for the bytes of l, if l is no longer than a line, is not too short
  pub told_full : (length l ≤ digit_limit → length l ≤ 2 * length out) → outcome (refused 8 0) o ≡ bytes_into l out → ⊥
  unfolding bytes_into stored
  told_full h e =
      let w = full_by (length (unhexed l)) o (over (unhexed l) out) out (line_ok l) (ltb (length out) (length (unhexed l))) e in
      let k : length l ≤ digit_limit = leb-true (length l) digit_limit (both (leb (length l) digit_limit) (paired l) w.0).0 in
      let f : length out < length (unhexed l) = ltb-true (length out) (length (unhexed l)) w.1 in
      omega (arith, unhexed-length l, h k)
