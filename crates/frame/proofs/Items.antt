-- Laws of items of some bytes each.
use mathlib.Core.Path.{◌≡◌, refl, ap, ◌∙◌}
use mathlib.Core.Bool.{Bool, true, false}
use mathlib.Core.List.{List, ◌∷◌}
use Prim.Native.Nat.{ℕ, zero, suc, ◌+◌, ◌-◌, ◌*◌, ◌/◌, ◌%◌, ◌≤◌, ◌<◌}
use native.Mathlib.Nat.{sub-zero, zero-mul}
use native.Mathlib.Omega.{arith}
use borrow.Author.Tests.{le-leb, lt-leb, eq-eqb, ne_eqb}
use lib.Dec.{leb}
use lib.ListN.{length, drop, get_or, drop_of_length-le}
use lib.Seq.{drop-drop, get_or-drop}
use Rattle.promise.proofs.Lists.{next}
use Rattle.text.specs.Text.{all}
use Rattle.frame.specs.Numbers.{number_in, items}
use Rattle.frame.specs.Forms.{columns_in, flags_in, flagged, widths_in, pads_in}

module _ (k : ℕ) (f : List ℕ → ℕ) where
  pub length-items : (n : ℕ) (s : List ℕ) → length (items k n f s) ≡ n
  unfolding items
  length-items zero s = refl
  length-items (suc n) s = ap suc (length-items n (drop k s))

  -- the item at i
  pub items_at : (n : ℕ) (s : List ℕ) (i : ℕ) → i < n → get_or (items k n f s) i 0 ≡ f (drop (i * k) s)
  unfolding items
  items_at zero s i h = absurd (omega arith)
  items_at (suc n) s zero h = rw zero-mul
  items_at (suc n) s (suc i) h =
      let e : k + i * k ≡ suc i * k = omega arith in
      items_at n (drop k s) i (omega arith) ∙ rw (drop-drop (i * k) k s, e)

  -- the items from i on
  pub drop-items : (n : ℕ) (s : List ℕ) (i : ℕ) → drop i (items k n f s) ≡ items k (n - i) f (drop (i * k) s)
  unfolding items
  drop-items n s zero = rw (sub-zero, zero-mul)
  drop-items zero s (suc i) = let e : 0 - suc i ≡ 0 = omega arith in rw e
  drop-items (suc n) s (suc i) =
      let e : k + i * k ≡ suc i * k = omega arith in
      let m : suc n - suc i ≡ n - i = omega arith in
      rw m (drop-items n (drop k s) i ∙ rw (drop-drop (i * k) k s, e))

-- the lists of a split and of chunks: how long they are, and the flag at i
module _ (s : List ℕ) where
  pub length-columns : length (columns_in s) ≡ length s / 5
  unfolding columns_in
  length-columns = length-items 5 (λ t. number_in t 0) (length s / 5) s

  pub length-flags : length (flags_in s) ≡ length s / 5
  unfolding flags_in
  length-flags = length-items 5 (λ t. get_or t 4 0) (length s / 5) s

  pub length-widths : length (widths_in s) ≡ length s / 8
  unfolding widths_in
  length-widths = length-items 8 (λ t. number_in t 0) (length s / 8) s

  pub length-pads : length (pads_in s) ≡ length s / 8
  unfolding pads_in
  length-pads = length-items 8 (λ t. number_in t 4) (length s / 8) s

  pub flag_at : (i : ℕ) → i < length s / 5 → get_or (flags_in s) i 0 ≡ get_or s (i * 5 + 4) 0
  unfolding flags_in
  flag_at i h = items_at 5 (λ t. get_or t 4 0) (length s / 5) s i h ∙ get_or-drop (i * 5) s 4 0

-- the flags from i on
abbrev pub flags_from : List ℕ → ℕ → Bool
flags_from s i = all (λ b. leb b 1) (drop i (flags_in s))

flag_next : (s : List ℕ) (i : ℕ) → i < length s / 5 → drop i (flags_in s) ≡ get_or s (i * 5 + 4) 0 ∷ drop (i + 1) (flags_in s)
flag_next s i h = next (flags_in s) i (omega (arith, length-flags s)) ∙ rw (flag_at s i h)

pub flags_good : (s : List ℕ) (i : ℕ) → i < length s / 5 → get_or s (i * 5 + 4) 0 ≤ 1 → flags_from s i ≡ flags_from s (i + 1)
unfolding all
flags_good s i h g = rw (flag_next s i h, le-leb (get_or s (i * 5 + 4) 0) 1 g)

pub flags_bad : (s : List ℕ) (i : ℕ) → i < length s / 5 → 1 < get_or s (i * 5 + 4) 0 → flags_from s i ≡ false
unfolding all
flags_bad s i h g = rw (flag_next s i h, lt-leb (get_or s (i * 5 + 4) 0) 1 g)

pub flags_end : (s : List ℕ) (i : ℕ) → length s / 5 ≤ i → flags_from s i ≡ true
unfolding all
flags_end s i h =
    let l : length (flags_in s) ≤ i = omega (arith, length-flags s) in
    rw (drop_of_length-le (flags_in s) l)

pub flagged-whole : (s : List ℕ) → length s % 5 ≡ 0 → flagged s ≡ flags_from s 0
unfolding flagged
flagged-whole s h = rw (eq-eqb (length s % 5) 0 h)

pub flagged-part : (s : List ℕ) → (length s % 5 ≡ 0 → ⊥) → flagged s ≡ false
unfolding flagged
flagged-part s h = rw (ne_eqb (length s % 5) 0 h)
