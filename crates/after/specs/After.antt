-- Where a position lands after each edit, function by function as the original has it, whose words stand in quotes. "Shifts
-- follow `selection_shift.rs` with lengths and rows of the text before the edit (length 0 past the last row), on raw positions".
use Rattle.std.specs.Prelude.{Bool, cond, not, ◌||◌, List, [], ◌∷◌, ℕ, suc, ◌+◌, ◌-◌, min, max, leb, ltb, eqb, length, take, drop, get_or}
use Rattle.text.specs.declared.Position.{Position}
use Rattle.text.specs.Rows.{Line, lines, at, upto, last_row, row_len}
use Rattle.text.specs.Text.{is_lf}
use Rattle.joins.specs.Turns.{gap_len}

-- "Where `p` lands after `text` is inserted at `at`.": x at q. The rows that it adds, and "Chars on the final line of the
-- inserted text"
unfoldable pub after_insert : Position → Position → List ℕ → Position
after_insert p q x =
    let added = last_row is_lf x in
    let tail = row_len is_lf x added in
    cond (not (upto q p)) p
    (cond (eqb p.row.0 q.row.0)
    (cond (eqb added 0) (at p.row.0 (p.col.0 + length x)) (at (p.row.0 + added) (tail + (p.col.0 - q.col.0))))
    (at (p.row.0 + added) p.col.0))

-- "Where `p` lands after the charwise range `[start, end)` is deleted.": "Inside the hole — collapse to where the text used to
-- begin."; "Tail of the end row folds up onto the start row."
unfoldable pub after_delete_char : Position → Position → Position → Position
after_delete_char p s e =
    cond (upto p s) p
    (cond (not (upto e p)) s
    (cond (eqb p.row.0 e.row.0) (at s.row.0 (s.col.0 + (p.col.0 - e.col.0)))
    (at (p.row.0 - (e.row.0 - s.row.0)) p.col.0)))

-- "Where `p` lands after whole rows `start_row..=end_row` are deleted."
unfoldable pub after_delete_lines : Position → ℕ → ℕ → Position
after_delete_lines p s e = cond (ltb p.row.0 s) p (cond (leb p.row.0 e) (at s 0) (at (p.row.0 - (e - s + 1)) p.col.0))

-- "Where `p` lands after the rectangle `rows × [lo_col, hi_col]` is deleted."
unfoldable pub after_delete_block : Position → Position → Position → Position
after_delete_block p s e =
    let top = min s.row.0 e.row.0 in
    let bottom = max s.row.0 e.row.0 in
    let left = min s.col.0 e.col.0 in
    let right = max s.col.0 e.col.0 in
    cond (ltb p.row.0 top || ltb bottom p.row.0) p
    (cond (ltb right p.col.0) (at p.row.0 (p.col.0 - (right - left + 1)))
    (cond (leb left p.col.0) (at p.row.0 left) p))

-- "`start_col[k]` is the column original row `row + k` begins at", where the first row below is row + 1: of rows that are joined in turn
-- onto one of `len` elements
unfoldable pub start_cols : {A : Type 0} → Bool → ℕ → List (Line A) → List ℕ
start_cols b len [] = []
start_cols b len (r ∷ rs) =
    let col = len + gap_len b len (length r.body) in
    col ∷ start_cols b (col + length r.body) rs

-- "Where `p` lands after `count` rows are joined onto `row`."; "The anchor row keeps its columns; text is only appended after it."
unfoldable pub after_join : Position → ℕ → ℕ → Bool → List ℕ → Position
after_join p row count b t =
    let cols = start_cols b (row_len is_lf t row) (take (max count 1) (drop (suc row) (lines is_lf t))) in
    let joined = length cols in
    cond (ltb p.row.0 row) p
    (cond (eqb joined 0 || eqb p.row.0 row) p
    (cond (leb p.row.0 (row + joined)) (at row (get_or cols (p.row.0 - row - 1) 0 + p.col.0)) (at (p.row.0 - joined) p.col.0)))

-- "Where `p` lands after a block insert: `chunks[i]` spliced at `(at.row + i, at.col)`.": chunks of these lengths at q
unfoldable pub after_insert_block : Position → Position → List ℕ → Position
after_insert_block p q lens =
    cond (ltb p.row.0 q.row.0 || leb (q.row.0 + length lens) p.row.0 || ltb p.col.0 q.col.0) p
    (at p.row.0 (p.col.0 + get_or lens (p.row.0 - q.row.0) 0))

-- "Where `p` lands after a block delete: `widths[i]` chars removed at `(at.row + i, at.col)`."; "Pads are not modelled there."
unfoldable pub after_delete_block_chunks : Position → Position → List ℕ → Position
after_delete_block_chunks p q widths =
    let width = get_or widths (p.row.0 - q.row.0) 0 in
    cond (ltb p.row.0 q.row.0 || leb (q.row.0 + length widths) p.row.0 || leb p.col.0 q.col.0) p
    (cond (leb (q.col.0 + width) p.col.0) (at p.row.0 (p.col.0 - width)) (at p.row.0 q.col.0))
