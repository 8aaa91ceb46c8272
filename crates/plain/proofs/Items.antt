-- The item of a number.
use mathlib.Core.Path.{◌≡◌, refl, sym}
use mathlib.Core.List.{List, [], ◌∷◌}
use Rattle.std.specs.Prelude.{None}
use Prim.Native.Nat.{ℕ, zero, suc, ◌≤◌}
use native.Mathlib.Omega.{arith}
use lib.ListN.{length}
use Rattle.plain.specs.Meanings.{item}

-- there is none past the last
item-past : {A : Type 0} (xs : List A) (k : ℕ) → length xs ≤ k → item xs k ≡ None
unfolding item
item-past [] k h = refl
item-past (x ∷ xs) zero h = absurd (omega (arith, h))
item-past (x ∷ xs) (suc k) h = item-past xs k (omega (arith, h))

above : (k m : ℕ) → m ≤ k → (k ≡ m → ⊥) → suc m ≤ k
above k m h n = omega (arith, h, n)

module _ {A : Type 0} (xs : List A) (k : ℕ) (n0 : k ≡ 0 → ⊥) (n1 : k ≡ 1 → ⊥) (n2 : k ≡ 2 → ⊥) where
  three : 3 ≤ k
  three = above k 2 (above k 1 (above k 0 (omega arith) n0) n1) n2

  pub none_of_three : length xs ≡ 3 → None ≡ item xs k
  none_of_three l = sym (item-past xs k (omega (arith, l, three)))

  module _ (n3 : k ≡ 3 → ⊥) (n4 : k ≡ 4 → ⊥) (n5 : k ≡ 5 → ⊥) (n6 : k ≡ 6 → ⊥) (n7 : k ≡ 7 → ⊥) (n8 : k ≡ 8 → ⊥) (n9 : k ≡ 9 → ⊥) (n10 : k ≡ 10 → ⊥) where
    seven : 7 ≤ k
    seven = above k 6 (above k 5 (above k 4 (above k 3 three n3) n4) n5) n6

    pub none_of_eleven : length xs ≡ 11 → None ≡ item xs k
    none_of_eleven l = sym (item-past xs k (omega (arith, l, above k 10 (above k 9 (above k 8 (above k 7 seven n7) n8) n9) n10)))
