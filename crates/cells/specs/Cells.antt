-- The cells of a row.
use Rattle.std.specs.Prelude.{cond, List, [], ◌∷◌, ℕ, suc, ◌+◌, ◌*◌, ◌/◌, max, eqb, ltb}
use Rattle.std.specs.Prelude.{Option, None, Some}
use Rattle.cells.specs.Wide.{ranges, is_wide, edges, count_up_to}

-- "a tab runs to the next multiple of a tab width, 0 acting as 1"
unfoldable pub tab_stop : ℕ → ℕ → ℕ
tab_stop tab cell = (cell / max tab 1 + 1) * max tab 1

-- "two for Wide and Fullwidth in UAX #11 .., one otherwise": where the character ends that begins in this cell. "LF has none": it ends its row, and is
-- no character of it
unfoldable pub cell_after : ℕ → ℕ → ℕ → ℕ
cell_after tab cell x = cond (eqb x 9) (tab_stop tab cell) (cell + cond (is_wide x) 2 1)

-- "A row's width is now the sum of its characters' cells", of a row's rest behind `cell` cells, these counted in
unfoldable pub width_from : ℕ → ℕ → List ℕ → ℕ
width_from tab cell [] = cell
width_from tab cell (x ∷ s) = width_from tab (cell_after tab cell x) s

abbrev pub width : ℕ → List ℕ → ℕ
width tab row = width_from tab 0 row

-- "the first character whose last cell lies outside": its column
unfoldable pub first_outside_from : ℕ → ℕ → ℕ → ℕ → List ℕ → Option ℕ
first_outside_from cells tab cell col [] = None
first_outside_from cells tab cell col (x ∷ s) =
    cond (ltb cells (cell_after tab cell x)) (Some col) (first_outside_from cells tab (cell_after tab cell x) (suc col) s)

abbrev pub first_outside : ℕ → ℕ → List ℕ → Option ℕ
first_outside cells tab row = first_outside_from cells tab 0 0 row

-- what the next search tries first: the count of the last character that was searched for. What stands below the first range is not
unfoldable pub near_after : ℕ → ℕ → ℕ
near_after near x = cond (ltb x 0x1100) near (count_up_to x (edges ranges))
