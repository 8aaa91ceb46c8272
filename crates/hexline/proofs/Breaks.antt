-- A line of digits holds no LF.
use mathlib.Core.Path.{◌≡◌, refl, sym, ◌∙◌, ap}
use mathlib.Core.Bool.{Bool, true, false, cond, ◌&&◌}
use mathlib.Core.List.{List, [], ◌∷◌}
use Prim.Native.Nat.{ℕ, ◌+◌, ◌/◌, ◌%◌}
use native.Mathlib.Omega.{arith}
use borrow.Author.Tests.{eqb-true, ne_eqb}
use lib.Dec.{T, leb}
use Rattle.promise.proofs.Bools.{both, clash, unless, T-both}
use Rattle.text.specs.Text.{is_lf, all}
use Rattle.text.proofs.Ended.{not_lf, Plain}
use Rattle.hexline.specs.Digits.{is_digit, digit_of, hexed, paired}

break_no_digit : is_digit 10 ≡ false
unfolding is_digit
break_no_digit = refl

digit_no_break : (c : ℕ) → is_digit c ≡ true → T (not_lf c)
digit_no_break c h =
    let e : is_lf c ≡ false = unless (is_lf c) (λ e. clash h (ap is_digit (eqb-true c 10 e) ∙ break_no_digit)) in
    rw e tt

pub paired-plain : (l : List ℕ) → paired l ≡ true → Plain l
unfolding paired all
paired-plain [] h = tt
paired-plain (c ∷ []) h = let z : true ≡ false = sym h in absurd (clash refl z)
paired-plain (c ∷ d ∷ s) h =
    let a = both (is_digit c && is_digit d) (paired s) h in
    let b = both (is_digit c) (is_digit d) a.0 in
    T-both (not_lf c) (not_lf d && all not_lf s) (digit_no_break c b.0) (T-both (not_lf d) (all not_lf s) (digit_no_break d b.1) (paired-plain s a.1))

-- nor do the digits of any bytes
digit_plain : (n : ℕ) → T (not_lf (digit_of n))
unfolding digit_of
digit_plain n = go (leb n 9)
  where
    go : (b : Bool) → T (not_lf (cond b (48 + n) (87 + n)))
    go true = rw (ne_eqb (48 + n) 10 (λ e. omega arith)) tt
    go false = rw (ne_eqb (87 + n) 10 (λ e. omega arith)) tt

pub hexed-plain : (bs : List ℕ) → Plain (hexed bs)
unfolding hexed all
hexed-plain [] = tt
hexed-plain (b ∷ bs) =
    let c = digit_of (b / 16) in
    let d = digit_of (b % 16) in
    T-both (not_lf c) (not_lf d && all not_lf (hexed bs)) (digit_plain (b / 16)) (T-both (not_lf d) (all not_lf (hexed bs)) (digit_plain (b % 16)) (hexed-plain bs))
