-- A slice filled from the front, with bytes or with digits.
use mathlib.Core.Path.{◌≡◌}
use mathlib.Core.List.{List, [], ◌∷◌, ◌++◌}
use Prim.Native.Nat.{ℕ, ◌+◌, ◌*◌, ◌/◌, ◌%◌, ◌≤◌, ◌<◌}
use native.Mathlib.Omega.{arith}
use native.Mathlib.Numerals.{add-one}
use lib.ListN.{length, take, drop, get_or, set, drop_of_length-le}
use Rattle.promise.specs.Slices.{over}
use Rattle.utf8.proofs.Stores.{stored_more, stored-end}
use Rattle.hexline.specs.Digits.{value_of, digit_of, hexed, unhexed}
use Rattle.hexline.proofs.Pairs.{hexed-length, unhexed-length, unhexed-next, hexed-next}

-- the first i bytes stand in what was b
module _ (l b t : List ℕ) (i : ℕ) (inv : t ≡ take i (unhexed l) ++ drop i b) where
  pub bytes_again : (v w : ℕ) → v ≡ value_of (get_or l (i * 2) 0) → w ≡ value_of (get_or l (i * 2 + 1) 0) → i < length l / 2 → length (unhexed l) ≤ length b
      → set t i (v * 16 + w) ≡ take (i + 1) (unhexed l) ++ drop (i + 1) b
  bytes_again v w e f h room =
      let n = unhexed-length l in
      rw (e, f) (stored_more (unhexed l) b t (_ ∷ []) _ i inv (unhexed-next l i h) (omega arith) (omega arith))

  pub bytes_all : i ≤ length l / 2 → length l / 2 ≤ i → t ≡ over (unhexed l) b
  bytes_all h k =
      let n : length (unhexed l) ≤ i = omega (arith, unhexed-length l) in
      stored-end (unhexed l) b t i inv (drop_of_length-le (unhexed l) n) (omega (arith, unhexed-length l))

-- the digits of the first i bytes do
module _ (bs b t : List ℕ) (i : ℕ) (inv : t ≡ take (i * 2) (hexed bs) ++ drop (i * 2) b) where
  pub digits_again : (c d : ℕ) → c ≡ digit_of (get_or bs i 0 / 16) → d ≡ digit_of (get_or bs i 0 % 16) → i < length bs → length (hexed bs) ≤ length b
      → set (set t (i * 2) c) (i * 2 + 1) d ≡ take ((i + 1) * 2) (hexed bs) ++ drop ((i + 1) * 2) b
  digits_again c d e f h room =
      let n = hexed-length bs in
      let m : (i + 1) * 2 ≡ i * 2 + 2 = omega arith in
      rw (e, f, m, add-one) (stored_more (hexed bs) b t (_ ∷ _ ∷ []) _ (i * 2) inv (hexed-next bs i h) (omega arith) (omega arith))

  pub digits_all : i ≤ length bs → length bs ≤ i → t ≡ over (hexed bs) b
  digits_all h k =
      let n : length (hexed bs) ≤ i * 2 = omega (arith, hexed-length bs) in
      stored-end (hexed bs) b t (i * 2) inv (drop_of_length-le (hexed bs) n) (omega (arith, hexed-length bs))
