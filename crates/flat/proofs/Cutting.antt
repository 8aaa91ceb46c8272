-- What is cut, from what the scans find.
use mathlib.Core.Path.{◌≡◌, ◌∙◌, ap₂}
use mathlib.Core.List.{List}
use Prim.Native.Nat.{ℕ, ◌+◌, ◌-◌, ◌≤◌, ◌<◌, min, max}
use native.Mathlib.Nat.{add-zero}
use native.Mathlib.Numerals.{add-one}
use native.Mathlib.Omega.{arith}
use borrow.Author.Tests.{lt-ltb, le-ltb}
use lib.ListN.{length}
use Rattle.text.specs.declared.CharOffset.{CharOffset}
use Rattle.text.specs.declared.Position.{Position}
use Rattle.text.specs.declared.Span.{Span}
use Rattle.text.specs.declared.Place.{Place}
use Rattle.text.specs.Rows.{at, earlier, later, last_row, row_len, row_start, span, offset, place}
use Rattle.text.specs.Text.{is_lf}
use Rattle.text.proofs.Laws.{start_first}
use Rattle.text.proofs.Spots.{offset-place}
use Rattle.edit.specs.Edits.{cut_from, line_from, line_to, row_at}
use Rattle.flat.specs.declared.Cut.{Cut}
use Rattle.flat.specs.declared.LineCut.{LineCut}
use Rattle.flat.specs.Cuts.{cut_of, char_cut, rows_cut, line_cut}

-- ---- characters

pub char_cut_lem : (t : List ℕ) (p q p' q' : Position) (a e : Place) (m : CharOffset) → p' ≡ earlier p q → q' ≡ later p q → a ≡ place is_lf t p' → e ≡ place is_lf t q' → m.0 ≡ max a.at.0 e.at.0
    → record { start = a.at; end = m } ≡ char_cut t p q
char_cut_lem t p q p' q' a e m ep eq ea ee em =
    let f : a.at.0 ≡ cut_from is_lf t p q = rw (ea, ep) in
    let g : e.at.0 ≡ offset is_lf t (later p q) = rw (ee, eq) in
    ap₂ {C = Cut} (λ x y. cut_of x y) f (em ∙ rw (f, g))

-- ---- rows

module _ (t : List ℕ) (lo hi : ℕ) (h : lo ≤ hi) (k : hi < last_row is_lf t) where
  pub cut_between_lem : (s e : ℕ) → s ≡ row_start is_lf t lo → e ≡ row_start is_lf t (hi + 1) → record { lo = row_at lo; back = at lo 0; cut = cut_of s e } ≡ rows_cut t lo hi
  unfolding line_from line_to
  cut_between_lem s e es ee =
      rw (lt-ltb hi (last_row is_lf t) k, offset-place is_lf t lo 0 (omega arith) (omega arith), add-zero, ← add-one, es, ee)

module _ (t : List ℕ) (lo : ℕ) (h : 0 < lo) (k : lo ≤ last_row is_lf t) (f : Span) (e : f ≡ span is_lf t (lo - 1)) where
  pub cut_to-end : record { lo = row_at lo; back = at f.row.0 (f.end.0 - f.start.0); cut = cut_of f.end.0 (length t) } ≡ rows_cut t lo (last_row is_lf t)
  unfolding span line_from line_to
  cut_to-end =
      let r : ℕ = lo - 1 in
      let m : min (lo - 1) (last_row is_lf t) ≡ lo - 1 = omega arith in
      let n : row_start is_lf t (lo - 1) + row_len is_lf t (lo - 1) - row_start is_lf t (lo - 1) ≡ row_len is_lf t (lo - 1) = omega arith in
      rw (e, m, n, le-ltb (last_row is_lf t) (last_row is_lf t) (omega arith), lt-ltb 0 lo h, offset-place is_lf t (lo - 1) (row_len is_lf t (lo - 1)) (omega arith) (omega arith))

pub cut_whole : (t : List ℕ) (lo hi : ℕ) → lo ≤ 0 → last_row is_lf t ≤ hi → record { lo = row_at lo; back = at 0 0; cut = cut_of 0 (length t) } ≡ rows_cut t lo hi
unfolding line_from line_to
cut_whole t lo hi h k =
    let z : lo ≡ 0 = omega arith in
    rw (z, le-ltb hi (last_row is_lf t) k, offset-place is_lf t 0 0 (omega arith) (omega arith), start_first is_lf t, add-zero)

pub line-cut : (t : List ℕ) (a b l m n lo hi : ℕ) (r : LineCut) → l ≡ last_row is_lf t → m ≡ min a b → n ≡ max a b → lo ≡ min m l → hi ≡ min n l → r ≡ rows_cut t lo hi → r ≡ line_cut t a b
line-cut t a b l m n lo hi r el em en elo ehi er = er ∙ rw (elo, ehi, em, en, el)
