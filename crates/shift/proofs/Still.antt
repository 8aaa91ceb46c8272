-- Positions that an edit leaves where they are.
use mathlib.Core.Path.{◌≡◌, refl, sym}
use mathlib.Core.Bool.{Bool, true, false, cond, not, ◌||◌, or-true}
use mathlib.Core.Logic.{⊎_elim}
use mathlib.Core.List.{List, []}
use Prim.Native.Nat.{ℕ, zero, suc, ◌+◌, ◌-◌, ◌≤◌, ◌<◌, min, max}
use native.Mathlib.Nat.{add-zero}
use native.Mathlib.Omega.{arith}
use borrow.Author.Tests.{lt-ltb, le-ltb, le-leb, eq-eqb, ne_eqb, leb-true, leb-false, ltb-false}
use lib.Dec.{ltb, leb, eqb}
use lib.ListN.{length, get_or, replicate, drop_of_length-le}
use lib.Seq.{take-nil}
use Rattle.promise.proofs.Bools.{neither}
use Rattle.text.specs.declared.Position.{Position}
use Rattle.text.specs.Rows.{at, upto, lines, row_count, last_row, row_len, clamp}
use Rattle.text.specs.Text.{is_lf}
use Rattle.text.proofs.Spots.{clamp-within}
use Rattle.text.proofs.Order.{past_is, upto-total}
use Rattle.after.proofs.Rectangles.{put-outside}
use Rattle.after.specs.After.{after_insert, after_delete_char, after_delete_block, start_cols, after_join, after_insert_block, after_delete_block_chunks}

pub same : (p : Position) (r c : ℕ) → r ≡ p.row.0 → c ≡ p.col.0 → at r c ≡ p
same p r c e f = rw (e, f)

either_way : (b : Bool) (p q : Position) → q ≡ p → cond b p q ≡ p
either_way true p q e = refl
either_way false p q e = e

-- ---- before a block

pub insert_block_above : (p q : Position) (f : List ℕ) → p.row.0 < q.row.0 → after_insert_block p q f ≡ p
insert_block_above p q f h = sym (put-outside p q f (rw (lt-ltb p.row.0 q.row.0 h)))

pub insert_block_before : (p q : Position) (f : List ℕ) → p.col.0 < q.col.0 → after_insert_block p q f ≡ p
insert_block_before p q f h = sym (put-outside p q f (rw (lt-ltb p.col.0 q.col.0 h, or-true)))

-- ---- over an edit of nothing

pub insert-nothing : (p q : Position) → after_insert p q [] ≡ p
unfolding after_insert lines row_count last_row row_len
insert-nothing p q = either_way (not (upto q p)) p _ (go (eqb p.row.0 q.row.0))
  where
    go : (b : Bool) → cond b (at p.row.0 (p.col.0 + 0)) (at (p.row.0 + 0) p.col.0) ≡ p
    go true = rw add-zero
    go false = rw add-zero

pub delete_nothing : (p q : Position) → after_delete_char p q q ≡ p
unfolding after_delete_char
delete_nothing p q = go (upto p q) refl
  where
    go : (b : Bool) → upto p q ≡ b → after_delete_char p q q ≡ p
    go true e = rw e
    go false e =
        rw (e, upto-total p q e)
        (⊎_elim
        (λ h. rw (ne_eqb p.row.0 q.row.0 (λ x. omega arith)) (same p _ _ (omega arith) refl))
        (λ h. rw (eq-eqb p.row.0 q.row.0 (sym h.0)) (same p _ _ h.0 (omega arith))) (past_is p q e))

pub join-nothing : (p : Position) (r n : ℕ) (b : Bool) (t : List ℕ) → last_row is_lf t ≤ r → after_join p r n b t ≡ p
unfolding after_join start_cols last_row row_count
join-nothing p r n b t h = rw (drop_of_length-le (lines is_lf t) {i = suc r} (omega arith), take-nil) (either_way (ltb p.row.0 r) p p refl)

zeros : (n k : ℕ) → ◌≡◌ {A = ℕ} (get_or (replicate n 0) k 0) 0
zeros zero k = refl
zeros (suc n) zero = refl
zeros (suc n) (suc k) = zeros n k

pub insert-block_nothing : (p q : Position) (n : ℕ) → after_insert_block p q (replicate n 0) ≡ p
unfolding after_insert_block
insert-block_nothing p q n =
    rw (zeros, add-zero) (either_way (ltb p.row.0 q.row.0 || leb (q.row.0 + length (replicate n 0)) p.row.0 || ltb p.col.0 q.col.0) p p refl)

pub delete_chunks_nothing : (p q : Position) (n : ℕ) → after_delete_block_chunks p q (replicate n 0) ≡ p
unfolding after_delete_block_chunks
delete_chunks_nothing p q n = rw (zeros, add-zero) (go (ltb p.row.0 q.row.0 || leb (q.row.0 + length (replicate n 0)) p.row.0) (leb p.col.0 q.col.0) refl)
  where
    go : (a b : Bool) → leb p.col.0 q.col.0 ≡ b → cond (a || b) p (cond (leb q.col.0 p.col.0) (at p.row.0 (p.col.0 - 0)) (at p.row.0 q.col.0)) ≡ p
    go true b e = refl
    go false true e = refl
    go false false e = rw (le-leb q.col.0 p.col.0 (omega (arith, leb-false p.col.0 q.col.0 e))) (same p _ _ refl (omega arith))

-- ---- over a block that lies past the end of its rows

abbrev pub PastRows : List ℕ → Position → Position → Type 0
PastRows t s e =
    (r : ℕ) → min s.row.0 e.row.0 ≤ r → r ≤ max s.row.0 e.row.0 → r ≤ last_row is_lf t → row_len is_lf t r ≤ min s.col.0 e.col.0

pub past-rows : (t : List ℕ) (s e p : Position) → clamp is_lf t p ≡ p → PastRows t s e → after_delete_block p s e ≡ p
unfolding after_delete_block
past-rows t s e p k h = go (ltb p.row.0 (min s.row.0 e.row.0) || ltb (max s.row.0 e.row.0) p.row.0) refl
  where
    left : ℕ
    left = min s.col.0 e.col.0

    edge : (b : Bool) → leb left p.col.0 ≡ b → p.col.0 ≤ left → cond b (at p.row.0 left) p ≡ p
    edge true f l = same p _ _ refl (omega (arith, leb-true left p.col.0 f))
    edge false f l = refl

    go : (b : Bool) → (ltb p.row.0 (min s.row.0 e.row.0) || ltb (max s.row.0 e.row.0) p.row.0) ≡ b → after_delete_block p s e ≡ p
    go true f = rw f
    go false f =
        let n = neither (ltb p.row.0 (min s.row.0 e.row.0)) (ltb (max s.row.0 e.row.0) p.row.0) f in
        let c = clamp-within is_lf t p k in
        let w = h p.row.0 (ltb-false _ _ n.0) (ltb-false _ _ n.1) c.0 in
        let l : p.col.0 ≤ left = omega arith in
        rw (f, le-ltb (max s.col.0 e.col.0) p.col.0 (omega arith)) (edge (leb left p.col.0) refl l)
