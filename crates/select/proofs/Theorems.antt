-- The theorems that specs/Theorems.antt states.
use mathlib.Core.Bool.{Bool, true, false, cond}
use mathlib.Core.Path.{◌≡◌, refl}
use Prim.Native.Nat.{ℕ, min, max}
use lib.Dec.{eqb}
use Rattle.promise.proofs.Bools.{both, both_true}
use Rattle.promise.proofs.Settled.{settled}
use Rattle.text.specs.declared.Position.{Position}
use Rattle.text.specs.Rows.{upto, earlier, later}
use Rattle.text.proofs.Order.{upto-trans, later-left, later-right, later-upto}
use Rattle.select.specs.declared.RowSpan.{RowSpan}
use Rattle.select.specs.declared.RowSpan.TheVariants as row_span
use Rattle.select.specs.declared.Sel.{Sel}
use Rattle.select.specs.declared.Selection.TheVariants.{Char, Line, Block}
use Rattle.select.specs.Answers.{Columns, none, between, from, paper_row_span}
use Rattle.select.specs.Sels.{start, end, overlaps}
use Rattle.select.specs.Selections.{outside, char_span, line_span, block_span}
use Rattle.select.specs.Theorems.{Common, OverlapsShares, SpanCovers, is_none, BoundsTell, Settled}
use Rattle.select.proofs.Overlaps.{start-end}
use Rattle.select.proofs.Spans.{char_span_lem, line-span, block_span_lem}

shared : (s t : Sel) → overlaps s t ≡ true → Common s t
shared s t e =
    let b = both (upto (start s) (end t)) (upto (start t) (end s)) e in
    let p : Position = later (start s) (start t) in
    let s_ends : upto p (end s) ≡ true = later-upto (start s) (start t) (end s) (start-end s) b.1 in
    let t_ends : upto p (end t) ≡ true = later-upto (start s) (start t) (end t) b.0 (start-end t) in
    record { place = p; first = both_true (later-left (start s) (start t)) s_ends; second = both_true (later-right (start s) (start t)) t_ends }

sharing : (s t : Sel) → Common s t → overlaps s t ≡ true
sharing s t c =
    let p : Position = c.place in
    let a = both (upto (start s) p) (upto p (end s)) c.first in
    let b = both (upto (start t) p) (upto p (end t)) c.second in
    both_true (upto-trans (start s) p (end t) a.0 b.1) (upto-trans (start t) p (end s) b.0 a.1)

pub overlaps-shares : OverlapsShares
overlaps-shares s t = record { common = shared s t; overlapping = sharing s t }

pub span-covers : SpanCovers
span-covers (Char a h) row col = char_span_lem row col (earlier a h) (later a h)
span-covers (Line a h) row col = line-span (min a.0 h.0) (max a.0 h.0) row col
span-covers (Block a h) row col = block_span_lem (min a.row.0 h.row.0) (max a.row.0 h.row.0) (min a.col.0 h.col.0) (max a.col.0 h.col.0) row col

pub bounds-tell : BoundsTell
unfolding char_span line_span block_span
bounds-tell (Char a h) row = go (outside (earlier a h).row.0 (later a h).row.0 row) (eqb row (later a h).row.0)
  where
    lo : ℕ
    lo = cond (eqb row (earlier a h).row.0) (earlier a h).col.0 0

    go : (o e : Bool) → is_none (cond o none (cond e (between lo (later a h).col.0) (from lo))) ≡ o
    go true e = refl
    go false true = refl
    go false false = refl
bounds-tell (Line a h) row = go (outside (min a.0 h.0) (max a.0 h.0) row)
  where
    go : (o : Bool) → is_none (cond o none (from 0)) ≡ o
    go true = refl
    go false = refl
bounds-tell (Block a h) row = go (outside (min a.row.0 h.row.0) (max a.row.0 h.row.0) row)
  where
    go : (o : Bool) → is_none (cond o none (between (min a.col.0 h.col.0) (max a.col.0 h.col.0))) ≡ o
    go true = refl
    go false = refl

span_back : Columns → RowSpan
span_back none = row_span.Outside
span_back (between lo hi) = row_span.Closed (record { 0 = lo }) (record { 0 = hi })
span_back (from lo) = row_span.Open (record { 0 = lo })

span-back : (x : RowSpan) → span_back (paper_row_span x) ≡ x
unfolding span_back
span-back row_span.Outside = refl
span-back (row_span.Closed lo hi) = refl
span-back (row_span.Open lo) = refl

pub promises_settle : Settled
promises_settle = record { row_span = settled span_back span-back }
