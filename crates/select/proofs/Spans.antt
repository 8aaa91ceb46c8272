-- The columns that a selection covers of a row.
use mathlib.Core.Bool.{Bool, true, false, cond, ◌&&◌, ◌||◌, and-true, and-false}
use mathlib.Core.Logic.{◌⊎◌, inl, inr, ⊎_elim}
use mathlib.Core.Path.{◌≡◌, refl, ◌∙◌}
use Prim.Native.Nat.{ℕ, ◌≤◌, ◌<◌}
use native.Mathlib.Decide.{dec_lt}
use native.Mathlib.Omega.{arith}
use borrow.Author.Tests.{ltb-true, ltb-false, lt-ltb, le-ltb, le-leb, lt-leb, eq-eqb, ne_eqb}
use lib.Dec.{ltb, eqb, leb}
use Rattle.std.specs.Ordering.{is_lt, nat_cmp}
use Rattle.promise.proofs.Bools.{either, neither}
use Rattle.text.specs.declared.Position.{Position}
use Rattle.text.specs.Rows.{at, upto}
use Rattle.text.proofs.Order.{is_lt-ltb}
use Rattle.select.specs.Answers.{Columns, none, between, from, has}
use Rattle.select.specs.Selections.{outside, char_span, line_span, block_span}

module _ (top bottom row : ℕ) where
  row_outside : outside top bottom row ≡ true → (row < top) ⊎ (bottom < row)
  row_outside e = ⊎_elim (λ h. inl (ltb-true _ _ h)) (λ h. inr (ltb-true _ _ h)) (either (ltb row top) (ltb bottom row) e)

  row_inside : outside top bottom row ≡ false → (top ≤ row) × (row ≤ bottom)
  row_inside e = let h = neither (ltb row top) (ltb bottom row) e in (ltb-false _ _ h.0, ltb-false _ _ h.1)

-- the test as it is made of rows
pub outside_told : (top bottom row : ℕ) (a b r : Bool) → a ≡ is_lt (nat_cmp row top) → b ≡ is_lt (nat_cmp bottom row) → (a || b) ≡ r → outside top bottom row ≡ r
outside_told top bottom row a b r ea eb e = rw (ea, eb, is_lt-ltb row top, is_lt-ltb bottom row) at e

module _ (row col : ℕ) where
  row_before : (p : Position) → row < p.row.0 → upto p (at row col) ≡ false
  row_before p h = rw (le-ltb p.row.0 row (omega arith), ne_eqb p.row.0 row (omega arith))

  row_behind : (p : Position) → p.row.0 < row → upto (at row col) p ≡ false
  row_behind p h = rw (le-ltb row p.row.0 (omega arith), ne_eqb row p.row.0 (omega arith))

  starts : (s : Position) → s.row.0 ≤ row → leb (cond (eqb row s.row.0) s.col.0 0) col ≡ upto s (at row col)
  starts s h =
      elim (dec_lt s.row.0 row) [
        | yes l ↦ rw (ne_eqb row s.row.0 (omega arith), lt-ltb s.row.0 row l, le-leb 0 col (omega arith))
        | no n ↦ (let e : s.row.0 ≡ row = omega arith in rw (eq-eqb row s.row.0 (omega arith), le-ltb s.row.0 row (omega arith), eq-eqb s.row.0 row e))
      ]

  pub char_span_lem : (s e : Position) → has (char_span s e row) col ≡ (upto s (at row col) && upto (at row col) e)
  unfolding char_span
  char_span_lem s e = out (outside s.row.0 e.row.0 row) refl
    where
      lo : ℕ
      lo = cond (eqb row s.row.0) s.col.0 0

      out : (b : Bool) → outside s.row.0 e.row.0 row ≡ b
          → has (cond b none (cond (eqb row e.row.0) (between lo e.col.0) (from lo))) col ≡ (upto s (at row col) && upto (at row col) e)
      out true o = ⊎_elim (λ h. rw (row_before s h)) (λ h. rw (row_behind e h, and-false)) (row_outside s.row.0 e.row.0 row o)
      out false o =
          let h = row_inside s.row.0 e.row.0 row o in
          elim (dec_lt row e.row.0) [
            | yes l ↦ rw (ne_eqb row e.row.0 (omega arith), lt-ltb row e.row.0 l, and-true, starts s h.0)
            | no n ↦ rw (eq-eqb row e.row.0 (omega arith), le-ltb row e.row.0 (omega arith), starts s h.0)
          ]

-- whether a test holds inside of some rows
rows-within : (top bottom row : ℕ) (b : Bool) → cond (outside top bottom row) false b ≡ ((leb top row && leb row bottom) && b)
rows-within top bottom row b = go (outside top bottom row) refl
  where
    go : (o : Bool) → outside top bottom row ≡ o → cond o false b ≡ ((leb top row && leb row bottom) && b)
    go true e = ⊎_elim (λ h. rw (lt-leb top row h)) (λ h. rw (lt-leb row bottom h, and-false)) (row_outside top bottom row e)
    go false e = let h = row_inside top bottom row e in rw (le-leb top row h.0, le-leb row bottom h.1)

has-cond : (o : Bool) (w : Columns) (col : ℕ) → has (cond o none w) col ≡ cond o false (has w col)
has-cond true w col = refl
has-cond false w col = refl

pub line-span : (top bottom row col : ℕ) → has (line_span top bottom row) col ≡ (leb top row && leb row bottom)
unfolding line_span
line-span top bottom row col =
    has-cond (outside top bottom row) (from 0) col ∙ rw (le-leb 0 col (omega arith)) (rows-within top bottom row true ∙ and-true (leb top row && leb row bottom))

pub block_span_lem : (top bottom left right row col : ℕ)
    → has (block_span top bottom left right row) col ≡ ((leb top row && leb row bottom) && (leb left col && leb col right))
unfolding block_span
block_span_lem top bottom left right row col =
    has-cond (outside top bottom row) (between left right) col ∙ rows-within top bottom row (leb left col && leb col right)
