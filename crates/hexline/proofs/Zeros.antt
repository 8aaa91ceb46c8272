-- Two digits 0 are the byte 0, and no other.
use mathlib.Core.Path.{◌≡◌, refl}
use mathlib.Core.Bool.{Bool, true, false, cond}
use mathlib.Core.List.{List, ◌∷◌}
use Prim.Native.Nat.{ℕ, ◌+◌, ◌/◌, ◌%◌}
use native.Mathlib.Omega.{arith}
use lib.Dec.{leb}
use Rattle.hexline.specs.Digits.{digit_of, hexed}

digit_zero : (n : ℕ) → digit_of n ≡ 48 → n ≡ 0
unfolding digit_of
digit_zero n = go (leb n 9)
  where
    go : (b : Bool) → cond b (48 + n) (87 + n) ≡ 48 → n ≡ 0
    go true e = omega arith
    go false e = omega arith

pub zero_byte : (n : ℕ) → digit_of (n / 16) ≡ 48 → digit_of (n % 16) ≡ 48 → n ≡ 0
zero_byte n e f =
    let a : n / 16 ≡ 0 = digit_zero (n / 16) e in
    let b : n % 16 ≡ 0 = digit_zero (n % 16) f in
    omega arith

pub hexed-zero : (bs : List ℕ) → hexed (0 ∷ bs) ≡ 48 ∷ 48 ∷ hexed bs
unfolding hexed digit_of
hexed-zero bs = refl
