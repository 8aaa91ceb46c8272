-- Digits two by two: how many, what stands where, and how a scan goes on.
use mathlib.Core.Path.{◌≡◌, refl, sym, ap, ◌∙◌}
use mathlib.Core.Bool.{Bool, true, false, ◌&&◌}
use mathlib.Core.List.{List, [], ◌∷◌}
use Prim.Native.Nat.{ℕ, zero, suc, ◌+◌, ◌*◌, ◌/◌, ◌%◌, ◌<◌}
use native.Mathlib.Nat.{add-zero}
use native.Mathlib.Omega.{arith}
use borrow.Author.Tests.{eq-eqb, ne_eqb}
use lib.Dec.{eqb}
use lib.ListN.{length, drop, get_or}
use lib.Seq.{drop-nil}
use Rattle.std.specs.List.{list_all}
use Rattle.std.specs.Simd.{first_chunks}
use Rattle.std.proofs.lemmas.List.{get_or-take, get_or-drop}
use Rattle.promise.proofs.Bools.{both}
use Rattle.promise.proofs.Lists.{next, next-2}
use Rattle.text.proofs.Scans.{block-at}
use Rattle.hexline.specs.Digits.{is_digit, value_of, digit_of, hexed, unhexed, paired}

pub hexed-length : (bs : List ℕ) → length (hexed bs) ≡ length bs * 2
unfolding hexed
hexed-length [] = refl
hexed-length (b ∷ bs) = let k = hexed-length bs in omega arith

pub unhexed-length : (l : List ℕ) → length (unhexed l) ≡ length l / 2
unfolding unhexed
unhexed-length [] = refl
unhexed-length (c ∷ []) = refl
unhexed-length (c ∷ d ∷ s) = let k = unhexed-length s in omega arith

-- two by two, and nothing but digits: an even number of them
paired_all : (l : List ℕ) → (eqb (length l % 2) 0 && list_all is_digit l) ≡ paired l
unfolding paired
paired_all [] = refl
paired_all (c ∷ []) = refl
paired_all (c ∷ d ∷ s) =
    let e : suc (suc (length s)) % 2 ≡ length s % 2 = omega arith in
    rw (e, ← paired_all s) (go (is_digit c) (is_digit d) (eqb (length s % 2) 0) (list_all is_digit s))
  where
    go : (a b e x : Bool) → (e && (a && (b && x))) ≡ (a && b && (e && x))
    go true true true x = refl
    go true true false x = refl
    go true false true x = refl
    go true false false x = refl
    go false b true x = refl
    go false b false x = refl

pub paired_even : (l : List ℕ) → length l % 2 ≡ 0 → list_all is_digit l ≡ paired l
paired_even l h = rw (eq-eqb (length l % 2) 0 h) at (paired_all l)

pub paired_odd : (l : List ℕ) → (length l % 2 ≡ 0 → ⊥) → eqb (length l % 2) 0 ≡ paired l
paired_odd l h = let e = ne_eqb (length l % 2) 0 h in e ∙ (rw e at (paired_all l))

-- the i-th pair of a list that is cut into pairs
module _ (l : List ℕ) (p : List (List ℕ)) (i : ℕ) (e : p ≡ first_chunks 2 (length l / 2) l) (h : i < length l / 2) where
  pub high_at : get_or (get_or p i []) 0 0 ≡ get_or l (i * 2) 0
  high_at = rw (e, block-at 2 (length l / 2) i l h) (get_or-take 2 (drop (i * 2) l) 0 0 (omega arith) ∙ get_or-drop (i * 2) l 0 0 ∙ rw add-zero)

  pub low_at : get_or (get_or p i []) 1 0 ≡ get_or l (i * 2 + 1) 0
  low_at = rw (e, block-at 2 (length l / 2) i l h) (get_or-take 2 (drop (i * 2) l) 1 0 (omega arith) ∙ get_or-drop (i * 2) l 1 0)

pub hexed-drop : (bs : List ℕ) (i : ℕ) → drop (i * 2) (hexed bs) ≡ hexed (drop i bs)
unfolding hexed
hexed-drop bs zero = refl
hexed-drop [] (suc i) = drop-nil (suc i * 2)
hexed-drop (b ∷ bs) (suc i) = let n : suc i * 2 ≡ suc (suc (i * 2)) = omega arith in rw n (hexed-drop bs i)

pub unhexed-drop : (l : List ℕ) (i : ℕ) → drop i (unhexed l) ≡ unhexed (drop (i * 2) l)
unfolding unhexed
unhexed-drop l zero = refl
unhexed-drop [] (suc i) = rw (drop-nil (suc i * 2))
unhexed-drop (c ∷ []) (suc i) = let n : suc i * 2 ≡ suc (suc (i * 2)) = omega arith in rw n
unhexed-drop (c ∷ d ∷ s) (suc i) = let n : suc i * 2 ≡ suc (suc (i * 2)) = omega arith in rw n (unhexed-drop s i)

pub paired-drop : (l : List ℕ) (i : ℕ) → paired l ≡ true → paired (drop (i * 2) l) ≡ true
unfolding paired
paired-drop l zero e = e
paired-drop [] (suc i) e = rw drop-nil
paired-drop (c ∷ []) (suc i) e = let z : false ≡ true = e in cc
paired-drop (c ∷ d ∷ s) (suc i) e =
    let n : suc i * 2 ≡ suc (suc (i * 2)) = omega arith in
    rw n (paired-drop s i (both (is_digit c && is_digit d) (paired s) e).1)

-- the two digits of the byte at i
module _ (l : List ℕ) (i : ℕ) (h : i < length l / 2) where
  pub digits_at : paired l ≡ true → (is_digit (get_or l (i * 2) 0) ≡ true) × (is_digit (get_or l (i * 2 + 1) 0) ≡ true)
  unfolding paired
  digits_at e =
      let c : ℕ = get_or l (i * 2) 0 in
      let d : ℕ = get_or l (i * 2 + 1) 0 in
      let n : i * 2 + 1 < length l = omega arith in
      both (is_digit c) (is_digit d) (both (is_digit c && is_digit d) (paired (drop (i * 2 + 2) l)) (rw (next-2 l (i * 2) n) at (paired-drop l i e))).0

  pub unhexed-next : drop i (unhexed l) ≡ (value_of (get_or l (i * 2) 0) * 16 + value_of (get_or l (i * 2 + 1) 0)) ∷ unhexed (drop (i * 2 + 2) l)
  unfolding unhexed
  unhexed-next = let n : i * 2 + 1 < length l = omega arith in unhexed-drop l i ∙ rw (next-2 l (i * 2) n)

  pub unhexed-at : get_or (unhexed l) i 0 ≡ value_of (get_or l (i * 2) 0) * 16 + value_of (get_or l (i * 2 + 1) 0)
  unhexed-at = ap (λ (n : ℕ). get_or (unhexed l) n 0) (sym (add-zero i)) ∙ sym (get_or-drop i (unhexed l) 0 0) ∙ ap (λ (s : List ℕ). get_or s 0 0) unhexed-next

pub hexed-next : (bs : List ℕ) (i : ℕ) → i < length bs
    → drop (i * 2) (hexed bs) ≡ digit_of (get_or bs i 0 / 16) ∷ digit_of (get_or bs i 0 % 16) ∷ hexed (drop (i + 1) bs)
unfolding hexed
hexed-next bs i h = hexed-drop bs i ∙ rw (next bs i h)
