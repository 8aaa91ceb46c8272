-- The lead's count of leading one bits picks the one rule of the ABNF that can take its sequence.
use mathlib.Core.Path.{◌≡◌, refl, sym, ap, ◌∙◌}
use mathlib.Core.Bool.{Bool, true, false, cond, not, ◌&&◌, ◌||◌}
use mathlib.Core.List.{List, [], ◌∷◌, ◌++◌, append-nil}
use mathlib.Core.Logic.{⊎_elim}
use Prim.Native.Nat.{ℕ, zero, suc, ◌-◌, ◌<◌, ◌≤◌}
use native.Mathlib.Nat.{eq-or-lt_of_le}
use native.Mathlib.Omega.{arith}
use borrow.Author.Tests.{not-true, eq-eqb, ne_eqb, eqb-true, leb-true}
use lib.Count.{count_leading_zeros}
use lib.Dec.{eqb, leb}
use lib.ListN.{length}
use Rattle.utf8.specs.Rfc3629.{Range, UTF8-1, UTF8-2, UTF8-3, UTF8-4, UTF8-char, within, begins, taken}
use Rattle.utf8.specs.Lead.{announced}
use Rattle.promise.proofs.Bools.{both}

-- a rule of every number below n, by one computed test
abbrev pub below : (ℕ → Bool) → ℕ → Bool
below f zero = true
below f (suc n) = f n && below f n

pub each : (f : ℕ → Bool) (n : ℕ) → below f n ≡ true → (k : ℕ) → k < n → f k ≡ true
each f zero e k h = absurd (omega arith)
each f (suc n) e k h =
    let b = both (f n) (below f n) e in
    ⊎_elim (λ q. rw q b.0) (λ lt. each f n b.1 k lt) (eq-or-lt_of_le {n = k} {m = n} (omega arith))

-- no row of the rule can start with the octet
abbrev misses : List (List Range) → ℕ → Bool
misses [] b = true
misses ([] ∷ rows) b = false
misses ((r ∷ row) ∷ rows) b = not (within r b) && misses rows b

module _ (b : ℕ) (s : List ℕ) where
  skip : (xs ys : List (List Range)) → misses xs b ≡ true → taken (xs ++ ys) (b ∷ s) ≡ taken ys (b ∷ s)
  unfolding taken begins
  skip [] ys e = refl
  skip ([] ∷ xs) ys e = let z : false ≡ true = e in cc
  skip ((r ∷ row) ∷ xs) ys e = let m = both (not (within r b)) (misses xs b) e in rw (not-true (within r b) m.0) (skip xs ys m.1)

  stop : (xs ys : List (List Range)) → misses ys b ≡ true → taken (xs ++ ys) (b ∷ s) ≡ taken xs (b ∷ s)
  unfolding taken
  stop [] ys e = rw (← append-nil ys) (skip ys [] e)
  stop (x ∷ xs) ys e = rw (stop xs ys e)

  only : (xs rule ys : List (List Range)) → misses xs b ≡ true → misses ys b ≡ true → taken (xs ++ (rule ++ ys)) (b ∷ s) ≡ taken rule (b ∷ s)
  only xs rule ys e f = skip xs (rule ++ ys) e ∙ stop rule ys f

-- the rules that stand before and after the announced one
before : ℕ → List (List Range)
before o = cond (eqb o 0) [] (cond (eqb o 2) UTF8-1 (cond (eqb o 3) (UTF8-1 ++ UTF8-2) (cond (eqb o 4) (UTF8-1 ++ (UTF8-2 ++ UTF8-3)) UTF8-char)))

after : ℕ → List (List Range)
after o = cond (eqb o 0) (UTF8-2 ++ (UTF8-3 ++ UTF8-4)) (cond (eqb o 2) (UTF8-3 ++ UTF8-4) (cond (eqb o 3) UTF8-4 []))

parts : (o : ℕ) → before o ++ (announced o ++ after o) ≡ UTF8-char
unfolding before after announced
parts o = go (eqb o 0) (eqb o 2) (eqb o 3) (eqb o 4)
  where
    go : (p q r t : Bool)
        → cond p [] (cond q UTF8-1 (cond r (UTF8-1 ++ UTF8-2) (cond t (UTF8-1 ++ (UTF8-2 ++ UTF8-3)) UTF8-char)))
        ++ (cond p UTF8-1 (cond q UTF8-2 (cond r UTF8-3 (cond t UTF8-4 [])))
        ++ cond p (UTF8-2 ++ (UTF8-3 ++ UTF8-4)) (cond q (UTF8-3 ++ UTF8-4) (cond r UTF8-4 [])))
        ≡ UTF8-char
    go true q r t = refl
    go false true r t = refl
    go false false true t = refl
    go false false false true = refl
    go false false false false = refl

test : ℕ → Bool
test b = let o = count_leading_zeros 8 (255 - b) in misses (before o) b && misses (after o) b

pub leads : (b : ℕ) (s : List ℕ) → b < 256 → taken UTF8-char (b ∷ s) ≡ taken (announced (count_leading_zeros 8 (255 - b))) (b ∷ s)
unfolding test before after count_leading_zeros
leads b s h =
    let o = count_leading_zeros 8 (255 - b) in
    let t = both (misses (before o) b) (misses (after o) b) (each test 256 refl b h) in
    ap (λ (rule : List (List Range)). taken rule (b ∷ s)) (sym (parts o)) ∙ only b s (before o) (announced o) (after o) t.0 t.1

-- a lead with no leading one bits
single : ℕ → Bool
single b = not (eqb (count_leading_zeros 8 (255 - b)) 0) || leb b 0x7F

singles : below single 256 ≡ true
unfolding single count_leading_zeros
singles = refl

pub no_ones : (b : ℕ) → b < 256 → count_leading_zeros 8 (255 - b) ≡ 0 → b ≤ 0x7F
unfolding single
no_ones b h e = leb-true _ _ (rw (eq-eqb _ 0 e) at (each single 256 singles b h))

-- Well-formed octets: their lead's count tells how many there are.
sized : ℕ → List (List Range) → Bool
sized n [] = true
sized n (row ∷ rows) = eqb (length row) n && sized n rows

taken-sized : (n : ℕ) (rule : List (List Range)) (s : List ℕ) (m : ℕ) → sized n rule ≡ true → taken rule s ≡ suc m → taken rule s ≡ n
unfolding taken sized
taken-sized n [] s m e t = absurd (omega arith)
taken-sized n (row ∷ rows) s m e t = go (begins row s) t (taken-sized n rows s m b.1)
  where
    b : (eqb (length row) n ≡ true) × (sized n rows ≡ true)
    b = both (eqb (length row) n) (sized n rows) e

    go : (x : Bool) → cond x (length row) (taken rows s) ≡ suc m → (taken rows s ≡ suc m → taken rows s ≡ n) → cond x (length row) (taken rows s) ≡ n
    go true t f = eqb-true _ _ b.0
    go false t f = f t

pub three_taken : (s : List ℕ) (m : ℕ) → taken UTF8-3 s ≡ suc m → taken UTF8-3 s ≡ 3
unfolding sized
three_taken s m t = taken-sized 3 UTF8-3 s m refl t

module _ (x o : ℕ) (s : List ℕ) (m : ℕ) (h : x < 256) (e : o ≡ count_leading_zeros 8 (255 - x)) (t : taken UTF8-char (x ∷ s) ≡ suc m) where
  lead_sized : (n : ℕ) → sized n (announced o) ≡ true → taken UTF8-char (x ∷ s) ≡ n
  lead_sized n k =
      let l : taken UTF8-char (x ∷ s) ≡ taken (announced o) (x ∷ s) = rw e (leads x s h) in
      l ∙ taken-sized n (announced o) (x ∷ s) m k (sym l ∙ t)

  -- by the order of the counts, of which 1 and those over 4 announce nothing
  lead_or : (n : ℕ) (rule : List (List Range)) (b : Bool) → sized n rule ≡ true → announced o ≡ cond b rule [] → taken UTF8-char (x ∷ s) ≡ n
  unfolding sized
  lead_or n rule true k a = lead_sized n (rw a k)
  lead_or n rule false k a = lead_sized n (rw a)

  pub lead_one : o ≤ 1 → taken UTF8-char (x ∷ s) ≡ 1
  unfolding announced sized
  lead_one l = lead_or 1 UTF8-1 (eqb o 0) refl (rw (ne_eqb o 2 (λ q. omega arith), ne_eqb o 3 (λ q. omega arith), ne_eqb o 4 (λ q. omega arith)))

  pub lead_two : 1 < o → o ≤ 2 → taken UTF8-char (x ∷ s) ≡ 2
  unfolding announced sized
  lead_two l u = let q : o ≡ 2 = omega arith in lead_sized 2 (rw q)

  pub lead_three : 2 < o → o ≤ 3 → taken UTF8-char (x ∷ s) ≡ 3
  unfolding announced sized
  lead_three l u = let q : o ≡ 3 = omega arith in lead_sized 3 (rw q)

  pub lead_four : 3 < o → taken UTF8-char (x ∷ s) ≡ 4
  unfolding announced sized
  lead_four l = lead_or 4 UTF8-4 (eqb o 4) refl (rw (ne_eqb o 0 (λ q. omega arith), ne_eqb o 2 (λ q. omega arith), ne_eqb o 3 (λ q. omega arith)))
