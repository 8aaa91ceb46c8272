-- How a definition over rows goes on at index i of a scan forwards: by what stands at i, and at the end.
use mathlib.Core.Path.{◌≡◌, refl, sym, ap, ◌∙◌}
use mathlib.Core.Bool.{Bool, true, false, cond, ◌&&◌, and_assoc, and-true}
use mathlib.Core.List.{List, [], ◌∷◌}
use Prim.Native.Nat.{ℕ, zero, suc, ◌+◌, ◌-◌, ◌*◌, ◌≤◌, ◌<◌}
use native.Mathlib.Numerals.{add-one, one-add, sub-one}
use borrow.Author.Tests.{eq-eqb, ne_eqb}
use native.Mathlib.Omega.{arith}
use lib.ListN.{length, take, drop, get_or, length-take, length-drop, take-append-drop, drop_of_length-le}
use lib.Seq.{drop-drop}
use Rattle.std.specs.List.{AllWithin, HoldsAt, count_by}
use Rattle.std.specs.Option.{MatchOption, unwrap_or}
use Rattle.std.specs.declared.option.Option.{Option}
use Rattle.std.specs.Simd.{first_chunks}
use Rattle.std.proofs.lemmas.Iterator.{index_from_first}
use Rattle.std.proofs.lemmas.List.Recursion.{is_count_by}
use Rattle.promise.proofs.Lists.{next}
use Rattle.text.specs.Rows.{last_row, row_len, row_start}
use Rattle.text.specs.Text.{is_lf, all}
use Rattle.text.proofs.Laws.{start-lf, start-other, start_none, start-behind, len_lf, len_other, len_none, last_lf, last_other, last_none}

module _ (s : List ℕ) (i : ℕ) (h : i < length s) where
  pub last_at-lf : get_or s i 0 ≡ 10 → last_row is_lf (drop i s) ≡ suc (last_row is_lf (drop (i + 1) s))
  last_at-lf e = rw (next s i h) (last_lf is_lf (get_or s i 0) (drop (i + 1) s) (eq-eqb (get_or s i 0) 10 e))

  pub last_at-other : (get_or s i 0 ≡ 10 → ⊥) → last_row is_lf (drop i s) ≡ last_row is_lf (drop (i + 1) s)
  last_at-other e = rw (next s i h) (last_other is_lf (get_or s i 0) (drop (i + 1) s) (ne_eqb (get_or s i 0) 10 e))

  pub start-at-lf : (r : ℕ) → (r ≡ 0 → ⊥) → get_or s i 0 ≡ 10 → row_start is_lf (drop i s) r ≡ suc (row_start is_lf (drop (i + 1) s) (r - 1))
  start-at-lf zero z e = absurd (z refl)
  start-at-lf (suc r) z e = rw (next s i h, sub-one) (start-lf is_lf (get_or s i 0) (drop (i + 1) s) r (eq-eqb (get_or s i 0) 10 e))

  pub start-at-other : (r : ℕ) → (r ≡ 0 → ⊥) → (get_or s i 0 ≡ 10 → ⊥) → row_start is_lf (drop i s) r ≡ suc (row_start is_lf (drop (i + 1) s) r)
  start-at-other zero z e = absurd (z refl)
  start-at-other (suc r) z e = rw (next s i h) (start-other is_lf (get_or s i 0) (drop (i + 1) s) r (ne_eqb (get_or s i 0) 10 e))

  pub len_at-lf : get_or s i 0 ≡ 10 → row_len is_lf (drop i s) 0 ≡ 0
  len_at-lf e = rw (next s i h) (len_lf is_lf (get_or s i 0) (drop (i + 1) s) (eq-eqb (get_or s i 0) 10 e))

  pub len_at-other : (get_or s i 0 ≡ 10 → ⊥) → row_len is_lf (drop i s) 0 ≡ suc (row_len is_lf (drop (i + 1) s) 0)
  len_at-other e = rw (next s i h) (len_other is_lf (get_or s i 0) (drop (i + 1) s) (ne_eqb (get_or s i 0) 10 e))

  pub all-at : (f : ℕ → Bool) (so_far b : Bool) → b ≡ f (get_or s i 0) → (so_far && all f (drop i s)) ≡ all f s → ((so_far && b) && all f (drop (i + 1) s)) ≡ all f s
  unfolding all
  all-at f so_far b e inv = rw (e, and_assoc) (rw (next s i h) at inv)

module _ (s : List ℕ) (i : ℕ) (h : length s ≤ i) where
  pub last_at-end : last_row is_lf (drop i s) ≡ 0
  last_at-end = rw (drop_of_length-le s h) (last_none is_lf)

  pub start-at-end : (r : ℕ) → row_start is_lf (drop i s) r ≡ 0
  start-at-end r = rw (drop_of_length-le s h) (start_none is_lf r)

  pub len_at-end : row_len is_lf (drop i s) 0 ≡ 0
  len_at-end = rw (drop_of_length-le s h) (len_none is_lf 0)

  pub all-at-end : (f : ℕ → Bool) (so_far : Bool) → (so_far && all f (drop i s)) ≡ all f s → so_far ≡ all f s
  unfolding all
  all-at-end f so_far inv = rw (drop_of_length-le s h, and-true) at inv

-- the number of the last row counts the LFs
pub last_count : (t : List ℕ) → last_row is_lf t ≡ count_by is_lf t
last_count = is_count_by (last_row is_lf) is_lf (last_none is_lf) (λ x t. go x t (is_lf x) refl)
  where
    go : (x : ℕ) (t : List ℕ) (b : Bool) → is_lf x ≡ b → last_row is_lf (x ∷ t) ≡ cond b (1 + last_row is_lf t) (last_row is_lf t)
    go x t true e = last_lf is_lf x t e ∙ sym (one-add (last_row is_lf t))
    go x t false e = last_other is_lf x t e

-- a search for the first LF: the row is as long as what stands before it, or as the text
pub run_found : (t : List ℕ) (r : Option ℕ) → MatchOption r (AllWithin (λ x. x ≡ 10 → ⊥) t 0 (length t)) (λ i. (i < length t) × HoldsAt (λ x. x ≡ 10) t i × AllWithin (λ x. x ≡ 10 → ⊥) t 0 i)
    → unwrap_or r (length t) ≡ row_len is_lf t 0
run_found t r h =
    sym (index_from_first (λ s. row_len is_lf s 0) (λ x. x ≡ 10) (λ x. x ≡ 10 → ⊥) (len_none is_lf 0) (λ x s e. len_lf is_lf x s (eq-eqb x 10 e)) (λ x s e. len_other is_lf x s (ne_eqb x 10 e) ∙ sym (add-one (row_len is_lf s 0))) t r h)

-- the i-th of a list's blocks
pub block-at : (n m i : ℕ) (s : List ℕ) → i < m → get_or (first_chunks n m s) i [] ≡ take n (drop (i * n) s)
block-at n zero i s h = absurd (omega arith)
block-at n (suc m) zero s h = let z : 0 * n ≡ 0 = omega arith in rw z
block-at n (suc m) (suc i) s h =
    let e : n + i * n ≡ suc i * n = omega arith in
    block-at n m i (drop n s) (omega arith) ∙ rw (drop-drop, e)

-- a block that ends k rows, all above row r, is passed over whole
pub start-past-block : (s : List ℕ) (n m i a r k : ℕ) → a ≡ i * n → i < m → a + n ≤ length s → k ≡ last_row is_lf (get_or (first_chunks n m s) i []) → k < r
    → row_start is_lf (drop a s) r ≡ n + row_start is_lf (drop (a + n) s) (r - k)
start-past-block s n m i a r k p q h e l =
    let f : k ≡ last_row is_lf (take n (drop a s)) = e ∙ ap (last_row is_lf) (block-at n m i s q ∙ rw (← p)) in
    let w : length (take n (drop a s)) ≡ n = omega (arith, length-take n (drop a s), length-drop a s) in
    ap (λ (t : List ℕ). row_start is_lf t r) (sym (take-append-drop n (drop a s)))
    ∙ start-behind is_lf (take n (drop a s)) (drop n (drop a s)) r (omega (arith, f)) ∙ rw (w, ← f, drop-drop n a s)
