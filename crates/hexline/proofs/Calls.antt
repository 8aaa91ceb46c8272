-- A whole call, by its ways out.
use mathlib.Core.Path.{◌≡◌}
use mathlib.Core.Bool.{true, false, and-false}
use mathlib.Core.List.{List}
use Prim.Native.Nat.{ℕ, ◌*◌, ◌/◌, ◌≤◌, ◌<◌}
use native.Mathlib.Omega.{arith}
use borrow.Author.Tests.{le-leb, lt-leb, lt-ltb, le-ltb}
use lib.ListN.{length}
use Rattle.promise.specs.Paper.{done, refused}
use Rattle.promise.specs.Slices.{over}
use Rattle.hexline.specs.Digits.{digit_limit, hexed, unhexed, paired}
use Rattle.utf8.specs.Calls.{outcome, stored}
use Rattle.hexline.specs.Calls.{bytes_into, digits_into}
use Rattle.hexline.proofs.Pairs.{hexed-length, unhexed-length}

module _ (l out : List ℕ) where
  pub unhex_long : digit_limit < length l → outcome (refused 10 0) out ≡ bytes_into l out
  unfolding bytes_into
  unhex_long h = rw (lt-leb _ _ h)

  pub unhex_bad : paired l ≡ false → outcome (refused 10 0) out ≡ bytes_into l out
  unfolding bytes_into
  unhex_bad e = rw (e, and-false)

  pub unhex_full : length l ≤ digit_limit → paired l ≡ true → length out < length l / 2 → outcome (refused 8 0) out ≡ bytes_into l out
  unfolding bytes_into stored
  unhex_full h e f = let k : length out < length (unhexed l) = omega (arith, unhexed-length l) in rw (le-leb _ _ h, e, lt-ltb _ _ k)

  pub unhex_all : (t : List ℕ) → length l ≤ digit_limit → paired l ≡ true → length l / 2 ≤ length out → t ≡ over (unhexed l) out
      → outcome (done (length l / 2)) t ≡ bytes_into l out
  unfolding bytes_into stored
  unhex_all t h e f q =
      let k : length (unhexed l) ≤ length out = omega (arith, unhexed-length l) in
      rw (le-leb _ _ h, e, le-ltb _ _ k, ← unhexed-length l, q)

module _ (bs out : List ℕ) where
  pub hex_long : digit_limit / 2 < length bs → outcome (refused 8 0) out ≡ digits_into bs out
  unfolding digits_into
  hex_long h = let k : digit_limit < length (hexed bs) = omega (arith, hexed-length bs) in rw (lt-leb _ _ k)

  pub hex_full : length bs ≤ digit_limit / 2 → length out / 2 < length bs → outcome (refused 8 0) out ≡ digits_into bs out
  unfolding digits_into stored
  hex_full n h =
      let k : length out < length (hexed bs) = omega (arith, hexed-length bs) in
      let m : length (hexed bs) ≤ digit_limit = omega (arith, hexed-length bs) in
      rw (le-leb _ _ m, lt-ltb _ _ k)

  pub hex_all : (t : List ℕ) → length bs ≤ digit_limit / 2 → length bs ≤ length out / 2 → t ≡ over (hexed bs) out
      → outcome (done (length bs * 2)) t ≡ digits_into bs out
  unfolding digits_into stored
  hex_all t h f q =
      let k : length (hexed bs) ≤ digit_limit = omega (arith, hexed-length bs) in
      let n : length (hexed bs) ≤ length out = omega (arith, hexed-length bs) in
      rw (le-leb _ _ k, le-ltb _ _ n, ← hexed-length bs, q)
