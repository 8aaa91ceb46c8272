-- Insertions and deletes that change nothing: what they then are, and that no position of the text moves.
use mathlib.Core.Path.{◌≡◌, refl, ap}
use mathlib.Core.Bool.{Bool, true, false, cond}
use mathlib.Core.List.{List, [], ◌++◌}
use Prim.Native.Nat.{ℕ, suc, ◌+◌, ◌-◌, ◌≤◌, ◌<◌, min, max}
use native.Mathlib.Omega.{arith}
use borrow.Author.Tests.{le-leb, ltb-true, ltb-false}
use lib.Dec.{ltb}
use lib.ListN.{length, take, drop, length-append, length-take, length-drop, drop_of_length-le}
use Rattle.text.specs.declared.Position.{Position}
use Rattle.text.specs.Rows.{at, upto, last_row, row_len, row_start, clamp, offset, spliced}
use Rattle.text.specs.Text.{is_lf}
use Rattle.text.proofs.Laws.{start_first, len_none, last_none, start-le}
use Rattle.text.proofs.Order.{upto-both, earlier-first, later_second}
use Rattle.text.proofs.Spots.{offset-le, offset-place, start-mono, offset-order, row_ends, clamp-within}
use Rattle.edit.specs.Edits.{inserted, chars_deleted, line_from, line_to, lines_deleted}
use Rattle.after.specs.After.{after_insert, after_delete_char, after_delete_lines}
use Rattle.shift.proofs.Still.{same, insert-nothing, delete_nothing}

-- ---- a splice that changes nothing puts in as much as it takes out

splice_same : (t x : List ℕ) (a e : ℕ) → a ≤ e → e ≤ length t → spliced t a e x ≡ t → a + length x ≡ e
splice_same t x a e h k q =
    omega (arith, ap length q, length-append (take a t) (x ++ drop e t), length-append x (drop e t), length-take a t, length-drop e t)

-- ---- insertions

pub insert-unchanged : (t : List ℕ) (p q : Position) (x : List ℕ) → (inserted is_lf t q x).text ≡ t → after_insert p q x ≡ p
unfolding inserted
insert-unchanged t p q x e =
    let o : ℕ = offset is_lf t q in
    let z : x ≡ [] = drop_of_length-le x {i = 0} (omega (arith, splice_same t x o o (omega arith) (offset-le is_lf t q) e)) in
    rw z (insert-nothing p q)

-- ---- characters

chars_same : (t : List ℕ) (a b : Position) → clamp is_lf t a ≡ a → clamp is_lf t b ≡ b → upto a b ≡ true → (chars_deleted is_lf t a b).text ≡ t → a ≡ b
unfolding chars_deleted
chars_same t a b ka kb o e =
    let x : ℕ = offset is_lf t a in
    let y : ℕ = offset is_lf t b in
    let q : spliced t x (max x y) [] ≡ t = rw (earlier-first a b o, later_second a b o) at e in
    let l = splice_same t [] x (max x y) (omega arith) (omega (arith, offset-le is_lf t a, offset-le is_lf t b)) q in
    upto-both a b o (offset-order is_lf t b a kb ka (omega arith))

pub chars_unchanged : (t : List ℕ) (p a b : Position) → clamp is_lf t a ≡ a → clamp is_lf t b ≡ b → upto a b ≡ true → (chars_deleted is_lf t a b).text ≡ t → after_delete_char p a b ≡ p
chars_unchanged t p a b ka kb o e = rw (← chars_same t a b ka kb o e) (delete_nothing p a)

-- ---- rows

-- only where there is no text does a delete of rows change nothing: else an LF goes, or all of it
rows_same : (t : List ℕ) (lo hi : ℕ) → lo ≤ hi → hi ≤ last_row is_lf t → spliced t (offset is_lf t (line_from is_lf t lo hi)) (line_to is_lf t hi) [] ≡ t → length t ≡ 0
unfolding line_from line_to
rows_same t lo hi h k = go (ltb hi (last_row is_lf t)) refl (ltb 0 lo) refl
  where
    go : (b : Bool) → ltb hi (last_row is_lf t) ≡ b → (c : Bool) → ltb 0 lo ≡ c
        → spliced t (offset is_lf t (cond b (at lo 0) (cond c (at (lo - 1) (row_len is_lf t (lo - 1))) (at 0 0)))) (cond b (row_start is_lf t (suc hi)) (length t)) [] ≡ t → length t ≡ 0
    go true f c g e =
        let a = offset-place is_lf t lo 0 (omega arith) (omega arith) in
        let n = row_ends is_lf t lo (omega (arith, ltb-true hi (last_row is_lf t) f)) in
        let m = start-mono is_lf t (suc lo) (suc hi) (omega arith) in
        absurd (omega (arith, splice_same t [] (offset is_lf t (at lo 0)) (row_start is_lf t (suc hi)) (omega arith) (start-le is_lf t (suc hi)) e))
    go false f true g e =
        let l : 0 < lo = ltb-true 0 lo g in
        let r : ℕ = lo - 1 in
        let a = offset-place is_lf t r (row_len is_lf t r) (omega arith) (omega arith) in
        let n = row_ends is_lf t r (omega arith) in
        let m = start-le is_lf t (suc r) in
        absurd (omega (arith, splice_same t [] (offset is_lf t (at r (row_len is_lf t r))) (length t) (omega arith) (omega arith) e))
    go false f false g e =
        let a = offset-place is_lf t 0 0 (omega arith) (omega arith) in
        omega (arith, splice_same t [] (offset is_lf t (at 0 0)) (length t) (omega (arith, start_first is_lf t)) (omega arith) e, start_first is_lf t)

-- the first position
lines_none : (p : Position) (s e : ℕ) → p.row.0 ≤ 0 → p.col.0 ≤ 0 → s ≤ e → after_delete_lines p s e ≡ p
unfolding after_delete_lines
lines_none p s e h k l = go (ltb p.row.0 s) refl
  where
    go : (b : Bool) → ltb p.row.0 s ≡ b → after_delete_lines p s e ≡ p
    go true f = rw f
    go false f = rw (f, le-leb p.row.0 e (omega arith)) (same p s 0 (omega (arith, ltb-false p.row.0 s f)) (omega arith))

pub lines-unchanged : (t : List ℕ) (p a b : Position) → clamp is_lf t p ≡ p → a.row.0 ≤ b.row.0 → (lines_deleted is_lf t a b).text ≡ t → after_delete_lines p a.row.0 b.row.0 ≡ p
unfolding lines_deleted
lines-unchanged t p a b k h e =
    let l : ℕ = last_row is_lf t in
    let z : t ≡ [] = drop_of_length-le t {i = 0} (omega (arith, rows_same t (min (min a.row.0 b.row.0) l) (min (max a.row.0 b.row.0) l) (omega arith) (omega arith) e)) in
    let c = clamp-within is_lf [] p (rw z at k) in
    lines_none p a.row.0 b.row.0 (omega (arith, last_none is_lf)) (omega (arith, len_none is_lf p.row.0)) h
