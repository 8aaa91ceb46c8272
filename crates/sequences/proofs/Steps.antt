-- One scalar read.
use mathlib.Core.Path.{◌≡◌, refl, sym, ap, ◌∙◌}
use mathlib.Core.Bool.{Bool, true, false, cond, false≢true}
use mathlib.Core.List.{List, [], ◌∷◌, ◌++◌}
use Prim.Native.Nat.{ℕ, zero, suc, ◌+◌, ◌-◌, ◌≤◌, ◌<◌}
use native.Mathlib.Omega.{arith}
use borrow.Author.Tests.{ne_eqb, eqb-true}
use lib.Count.{count_leading_zeros}
use lib.Dec.{eqb}
use lib.ListN.{length, take, drop, get_or, length-take, length-drop, drop_of_length-le}
use lib.Seq.{take_at, drop-drop}
use Rattle.promise.proofs.Lists.{next, next-2, next-3, next-4, tail_whole}
use Rattle.promise.specs.Paper.{done, refused}
use Rattle.utf8.specs.Rfc3629.{Range, UTF8-3, UTF8-char, taken, number}
use Rattle.utf8.specs.Lead.{announced}
use Rattle.utf8.specs.Reading.{scalars, bad_at, prepend, read_from}
use Rattle.utf8.specs.Calls.{stepped, step_by}
use Rattle.utf8.proofs.Lead.{leads, three_taken}
use Rattle.utf8.proofs.Agree.{takes-1}
use Rattle.utf8.proofs.Taken.{long_rows, taken-short, taken-le}
use Rattle.utf8.proofs.Readings.{read_found, read_lost}

-- Whether a rule takes the octets p, of which drop i s is made first, decides a step by that rule.
module _ (rule : List (List Range)) (s p q : List ℕ) (i n : ℕ) (r : Bool) (d : drop i s ≡ p ++ q) (l : length p ≡ suc n) (t : taken rule (p ++ q) ≡ cond r (suc n) 0) where
  pub found : (v : ℕ) → r ≡ true → v ≡ number p → done (v, i + suc n) ≡ step_by rule s i
  unfolding stepped
  found v e f = rw (d, t, e, take_at p q (suc n) l, f)

  pub lost : r ≡ false → refused 5 i ≡ step_by rule s i
  unfolding stepped
  lost e = rw (d, t, e)

-- Too few octets are left for it.
pub cut_off : (n : ℕ) (rule : List (List Range)) (s : List ℕ) (i : ℕ) → long_rows n rule ≡ true → length s - i < n → refused 5 i ≡ step_by rule s i
unfolding stepped
cut_off n rule s i e h = rw (taken-short n rule (drop i s) e (simp length-drop h))

-- What is left of s from i on, as it is lent.
module _ (s : List ℕ) (i : ℕ) where
  abbrev pub left : List ℕ
  left = take (length s - i) (drop i s)

  pub left-2 : 2 ≤ length left → drop i s ≡ get_or left 0 0 ∷ get_or left 1 0 ∷ drop 2 left
  left-2 h = sym (tail_whole s i) ∙ next-2 left 0 h

  pub left-3 : 3 ≤ length left → drop i s ≡ get_or left 0 0 ∷ get_or left 1 0 ∷ get_or left 2 0 ∷ drop 3 left
  left-3 h = sym (tail_whole s i) ∙ next-3 left 0 h

  pub left-4 : 4 ≤ length left → drop i s ≡ get_or left 0 0 ∷ get_or left 1 0 ∷ get_or left 2 0 ∷ get_or left 3 0 ∷ drop 4 left
  left-4 h = sym (tail_whole s i) ∙ next-4 left 0 h

  pub left-short : (n : ℕ) (rule : List (List Range)) → long_rows n rule ≡ true → length left < n → refused 5 i ≡ step_by rule s i
  left-short n rule e h = cut_off n rule s i e (omega (arith, length-take (length s - i) (drop i s), length-drop i s))

-- A step by the rule that the lead announces is a step.
pub announces : (s : List ℕ) (i o : ℕ) → i < length s → get_or s i 0 < 256 → o ≡ count_leading_zeros 8 (255 - get_or s i 0)
    → step_by (announced o) s i ≡ step_by UTF8-char s i
announces s i o h k e = rw (next s i h, e, leads (get_or s i 0) (drop (i + 1) s) k)

-- A count of 1 or over 4 announces none.
pub unannounced : (s : List ℕ) (i o : ℕ) → 0 < o → (o ≡ 2 → ⊥) → (o ≡ 3 → ⊥) → (o ≡ 4 → ⊥) → refused 5 i ≡ step_by (announced o) s i
unfolding announced taken stepped
unannounced s i o h p q r = rw (ne_eqb o 0 (omega arith), ne_eqb o 2 p, ne_eqb o 3 q, ne_eqb o 4 r)

pub ascii : (s : List ℕ) (i v : ℕ) → i < length s → get_or s i 0 ≤ 0x7F → v ≡ get_or s i 0 → done (v, i + 1) ≡ step_by UTF8-char s i
unfolding number
ascii s i v h k f = found UTF8-char s (get_or s i 0 ∷ []) (drop (i + 1) s) i 0 true (next s i h) refl (takes-1 (get_or s i 0) (drop (i + 1) s) k) v refl f

-- UTF8-3 tested where it stands
module _ (s : List ℕ) (i : ℕ) where
  pub three_cut : length (left s i) < 3 → false ≡ eqb (taken UTF8-3 (drop i s)) 3
  three_cut h = rw (taken-short 3 UTF8-3 (drop i s) refl (omega (arith, length-take (length s - i) (drop i s), length-drop i s)))

  pub three_tested : (r : Bool) → 3 ≤ length (left s i) → ((q : List ℕ) → taken UTF8-3 (get_or (left s i) 0 0 ∷ get_or (left s i) 1 0 ∷ get_or (left s i) 2 0 ∷ q) ≡ cond r 3 0)
      → r ≡ eqb (taken UTF8-3 (drop i s)) 3
  three_tested r h t = rw (left-3 s i h, t (drop 3 (left s i))) (go r)
    where
      go : (b : Bool) → b ≡ eqb (cond b 3 0) 3
      go true = refl
      go false = refl

-- and where its lead announces it
module _ (s : List ℕ) (i o : ℕ) (h : i < length s) (k : get_or s i 0 < 256) (e : o ≡ count_leading_zeros 8 (255 - get_or s i 0)) (q : o ≡ 3) where
  three_announced : step_by UTF8-3 s i ≡ step_by UTF8-char s i
  unfolding announced
  three_announced = rw q at (announces s i o h k e)

  pub three_step : eqb (taken UTF8-3 (drop i s)) 3 ≡ true → done (number (take 3 (drop i s)), i + 3) ≡ step_by UTF8-char s i
  unfolding stepped
  three_step f = rw (← three_announced, eqb-true (taken UTF8-3 (drop i s)) 3 f)

  pub three_lost : eqb (taken UTF8-3 (drop i s)) 3 ≡ false → refused 5 i ≡ step_by UTF8-char s i
  unfolding stepped
  three_lost f = go (taken UTF8-3 (drop i s)) refl ∙ three_announced
    where
      go : (n : ℕ) → taken UTF8-3 (drop i s) ≡ n → refused 5 i ≡ step_by UTF8-3 s i
      go zero t = rw t
      go (suc m) t = absurd (false≢true (sym (rw (three_taken (drop i s) m t) at f)))

-- What a step at i tells of the reading from i on.
module _ (s : List ℕ) (i : ℕ) where
  pub step-done : (v j : ℕ) → done (v, j) ≡ step_by UTF8-char s i → i ≤ length s
      → (read_from i 0 (drop i s) ≡ prepend v (read_from j 0 (drop j s))) × (i < j) × (j ≤ length s)
  unfolding stepped
  step-done v j e h = go (taken UTF8-char (drop i s)) refl e
    where
      go : (n : ℕ) → taken UTF8-char (drop i s) ≡ n → done (v, j) ≡ stepped n (drop i s) i
          → (read_from i 0 (drop i s) ≡ prepend v (read_from j 0 (drop j s))) × (i < j) × (j ≤ length s)
      go zero t e = let z : ◌≡◌ {A = ℕ} 0 1 = cc in absurd (omega arith)
      go (suc n) t e =
          let p : ◌≡◌ {A = ℕ × ℕ} (v, j) (number (take (suc n) (drop i s)), i + suc n) = cc in
          let k : suc n ≤ length (drop i s) = rw t at (taken-le UTF8-char (drop i s)) in
          let l : suc n ≤ length s - i = simp length-drop at k in
          let q : j ≡ i + suc n = ap (λ (x : ℕ × ℕ). x.1) p in
          (rw (ap (λ (x : ℕ × ℕ). x.0) p, q, read_found (drop i s) i n t, drop-drop), omega arith, omega arith)

  pub step-refused : (k : ℕ) → refused 5 k ≡ step_by UTF8-char s i → i < length s → read_from i 0 (drop i s) ≡ bad_at i
  unfolding stepped
  step-refused k e h = go (taken UTF8-char (drop i s)) refl e
    where
      go : (n : ℕ) → taken UTF8-char (drop i s) ≡ n → refused 5 k ≡ stepped n (drop i s) i → read_from i 0 (drop i s) ≡ bad_at i
      go zero t e = read_lost (drop i s) i t (simp length-drop (omega arith))
      go (suc n) t e = let z : ◌≡◌ {A = ℕ} 0 1 = cc in absurd (omega arith)

  -- what is refused is refused for this place
  pub step-place : (k : ℕ) → refused 5 k ≡ step_by UTF8-char s i → k ≡ i
  unfolding stepped
  step-place k e = go (taken UTF8-char (drop i s)) e
    where
      go : (n : ℕ) → refused 5 k ≡ stepped n (drop i s) i → k ≡ i
      go zero e = cc
      go (suc n) e = let z : ◌≡◌ {A = ℕ} 0 1 = cc in absurd (omega arith)

  pub read_end : length s ≤ i → read_from i 0 (drop i s) ≡ scalars []
  unfolding read_from
  read_end h = rw (drop_of_length-le s h)
