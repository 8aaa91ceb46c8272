-- Laws of strings that stand behind their lengths.
use mathlib.Core.Path.{◌≡◌, refl, ap, sym, ◌∙◌}
use mathlib.Core.Bool.{true, false}
use mathlib.Core.List.{List, []}
use Prim.Native.Nat.{ℕ, zero, suc, ◌+◌, ◌-◌, ◌≤◌, ◌<◌}
use native.Mathlib.Decide.{dec_le}
use native.Mathlib.Omega.{arith}
use borrow.Author.Tests.{le-leb, lt-leb, eq-eqb, ne_eqb}
use lib.ListN.{length, take, drop, length-drop}
use lib.Seq.{drop-drop}
use Rattle.frame.specs.Numbers.{number_in}
use Rattle.frame.specs.Forms.{Cut, broken, cut, is_cut, before, strings_from, strings_in}
use Rattle.frame.proofs.Fours.{number-front}

ended : (n : ℕ) (s : List ℕ) → length s ≡ 0 → strings_from n s ≡ cut []
unfolding strings_from
ended zero s e = refl
ended (suc n) s e = rw (eq-eqb (length s) 0 e)

torn : (n : ℕ) (s : List ℕ) → 0 < length s → length s < 4 + number_in s 0 → strings_from (suc n) s ≡ broken
unfolding strings_from
torn n s p h =
    let e : length s ≡ 0 → ⊥ = λ z. omega arith in
    rw (ne_eqb (length s) 0 e, lt-leb (4 + number_in s 0) (length s) h)

stepped : (n : ℕ) (s : List ℕ) → 4 + number_in s 0 ≤ length s → strings_from (suc n) s ≡ before (take (number_in s 0) (drop 4 s)) (strings_from n (drop (4 + number_in s 0) s))
unfolding strings_from
stepped n s h =
    let e : length s ≡ 0 → ⊥ = λ z. omega arith in
    rw (ne_eqb (length s) 0 e, le-leb (4 + number_in s 0) (length s) h)

alike : (n m : ℕ) (s : List ℕ) → ((t : List ℕ) → length t < length s → strings_from n t ≡ strings_from m t) → strings_from (suc n) s ≡ strings_from (suc m) s
alike n m s h =
    elim (dec_le (4 + number_in s 0) (length s)) [
      | yes g ↦ (let e = h (drop (4 + number_in s 0) s) (simp length-drop (omega arith)) in stepped n s g ∙ ap (before (take (number_in s 0) (drop 4 s))) e ∙ sym (stepped m s g))
      | no g ↦
          elim (dec_le 1 (length s)) [
            | yes p ↦ torn n s p (omega arith) ∙ sym (torn m s p (omega arith))
            | no p ↦ ended (suc n) s (omega arith) ∙ sym (ended (suc m) s (omega arith))
          ]
    ]

-- with no fewer asked for than there are bytes, what they are does not depend on how many
pub strings_enough : (n m : ℕ) (s : List ℕ) → length s ≤ n → length s ≤ m → strings_from n s ≡ strings_from m s
strings_enough zero m s p q = ended zero s (omega arith) ∙ sym (ended m s (omega arith))
strings_enough (suc n) zero s p q = ended (suc n) s (omega arith) ∙ sym (ended zero s (omega arith))
strings_enough (suc n) (suc m) s p q = alike n m s (λ t l. strings_enough n m t (omega arith) (omega arith))

-- what stands at offset a: nothing, or a length past the end, or a string and those behind it
module _ (s : List ℕ) (a : ℕ) where
  pub strings_none : length s ≤ a → strings_in (drop a s) ≡ cut []
  strings_none h = ended (length (drop a s)) (drop a s) (simp length-drop (omega arith))

  pub strings_torn : a < length s → length s < a + (4 + number_in s a) → strings_in (drop a s) ≡ broken
  strings_torn h g =
      let l : length (drop a s) ≡ suc (length s - a - 1) = simp length-drop (omega arith) in
      rw l (torn (length s - a - 1) (drop a s) (omega arith) (omega (arith, number-front s a)))

  pub strings_next : a + (4 + number_in s a) ≤ length s → strings_in (drop a s) ≡ before (take (number_in s a) (drop (a + 4) s)) (strings_in (drop (a + (4 + number_in s a)) s))
  strings_next h =
      let l : length (drop a s) ≡ suc (length s - a - 1) = simp length-drop (omega arith) in
      let n : number_in (drop a s) 0 ≡ number_in s a = number-front s a in
      let t = drop (a + (4 + number_in s a)) s in
      let e : strings_from (length s - a - 1) t ≡ strings_in t = strings_enough (length s - a - 1) (length t) t (simp length-drop (omega arith)) (omega arith) in
      rw l (stepped (length s - a - 1) (drop a s) (omega arith) ∙ rw (n, drop-drop 4 a s, drop-drop (4 + number_in s a) a s, e))

pub cut_before : (k : List ℕ) (c : Cut) → is_cut (before k c) ≡ is_cut c
unfolding is_cut before
cut_before k broken = refl
cut_before k (cut ks) = refl

-- as the scan sees them
pub cut_none : (s : List ℕ) (a : ℕ) → length s ≤ a → is_cut (strings_in (drop a s)) ≡ true
unfolding is_cut
cut_none s a h = rw (strings_none s a h)

pub cut_torn : (s : List ℕ) (a : ℕ) → a < length s → length s < a + (4 + number_in s a) → is_cut (strings_in (drop a s)) ≡ false
unfolding is_cut
cut_torn s a h g = rw (strings_torn s a h g)

pub cut_next : (s : List ℕ) (a : ℕ) → a + (4 + number_in s a) ≤ length s → is_cut (strings_in (drop a s)) ≡ is_cut (strings_in (drop (a + (4 + number_in s a)) s))
cut_next s a h = rw (strings_next s a h) (cut_before (take (number_in s a) (drop (a + 4) s)) (strings_in (drop (a + (4 + number_in s a)) s)))
