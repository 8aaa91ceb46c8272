-- Selections by characters, rows or rectangle. In quotes, the original's words.
use Rattle.std.specs.Prelude.{Bool, cond, ◌&&◌, ◌||◌, ℕ, min, max, leb, ltb, eqb}
use Rattle.text.specs.declared.Position.{Position}
use Rattle.text.specs.Rows.{at, upto, earlier, later}
use Rattle.select.specs.declared.RowBounds.{RowBounds}
use Rattle.select.specs.declared.Selection.{Selection}
use Rattle.select.specs.declared.Selection.TheVariants.{Char, Line, Block}
use Rattle.select.specs.Answers.{Columns, none, between, from}

-- "Where the cursor end of the selection lives."
abbrev pub head_of : Selection → Position
head_of (Char a h) = h
head_of (Line a h) = at h.0 0
head_of (Block a h) = h

-- "The opposite end of the selection"
abbrev pub anchor_of : Selection → Position
anchor_of (Char a h) = a
anchor_of (Line a h) = at a.0 0
anchor_of (Block a h) = a

-- "Move the cursor end of the selection to `pos`. Anchor stays put; for `Line` we drop the column"
abbrev pub extended : Selection → Position → Selection
extended (Char a h) p = Char a p
extended (Line a h) p = Line a p.row
extended (Block a h) p = Block a p

-- whether a row lies outside of those from top to bottom
abbrev pub outside : ℕ → ℕ → ℕ → Bool
outside top bottom row = ltb row top || ltb bottom row

-- "`Char` on a single row: `[min_col, max_col]`", "spanning rows: from `head/anchor.col` on the start row to end-of-line, then full
-- rows in between, then `0..=end.col` on the last row"
unfoldable pub char_span : Position → Position → ℕ → Columns
char_span s e row =
    let lo = cond (eqb row s.row.0) s.col.0 0 in
    cond (outside s.row.0 e.row.0 row) none (cond (eqb row e.row.0) (between lo e.col.0) (from lo))

-- "`Line`: `(0, usize::MAX)` for every row in range"
unfoldable pub line_span : ℕ → ℕ → ℕ → Columns
line_span top bottom row = cond (outside top bottom row) none (from 0)

-- "`Block`: `[min_col, max_col]` regardless of which row"
unfoldable pub block_span : ℕ → ℕ → ℕ → ℕ → ℕ → Columns
block_span top bottom left right row = cond (outside top bottom row) none (between left right)

-- "What columns of `row` the selection covers."
abbrev pub row_span : Selection → ℕ → Columns
row_span (Char a h) row = char_span (earlier a h) (later a h) row
row_span (Line a h) row = line_span (min a.0 h.0) (max a.0 h.0) row
row_span (Block a h) row =
    block_span (min a.row.0 h.row.0) (max a.row.0 h.row.0) (min a.col.0 h.col.0) (max a.col.0 h.col.0) row

abbrev pub bounds : ℕ → ℕ → RowBounds
bounds top bottom = record { top = record { 0 = top }; bottom = record { 0 = bottom } }

-- "Inclusive `(top_row, bottom_row)` covered by the selection."
abbrev pub row_bounds : Selection → RowBounds
row_bounds (Char a h) = bounds (earlier a h).row.0 (later a h).row.0
row_bounds (Line a h) = bounds (min a.0 h.0) (max a.0 h.0)
row_bounds (Block a h) = bounds (min a.row.0 h.row.0) (max a.row.0 h.row.0)

-- "Covers `anchor..=head` inclusive, row-major."; "the whole row is always covered"; "Covers the inclusive rectangle whose corners
-- are anchor and head."
abbrev pub covers_at : Selection → Position → Bool
covers_at (Char a h) p = upto (earlier a h) p && upto p (later a h)
covers_at (Line a h) p = leb (min a.0 h.0) p.row.0 && leb p.row.0 (max a.0 h.0)
covers_at (Block a h) p =
    (leb (min a.row.0 h.row.0) p.row.0 && leb p.row.0 (max a.row.0 h.row.0))
    && (leb (min a.col.0 h.col.0) p.col.0 && leb p.col.0 (max a.col.0 h.col.0))
