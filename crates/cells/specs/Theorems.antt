-- What is proved of the table, in proofs/Tables.antt, and of rows, in proofs/Widths.antt.
use Rattle.std.specs.Prelude.{true, not, ◌||◌, List, ◌≡◌, ℕ, suc, ◌≤◌, ◌<◌, eqb, length, take}
use Rattle.std.specs.Prelude.{None, Some}
use Rattle.utf8.specs.Rfc3629.{Range}
use Rattle.text.specs.Text.{all}
use Rattle.cells.specs.Cells.{width, first_outside}
use Rattle.cells.specs.Wide.{ranges, is_wide, wide_in, edges, ascends, count_up_to, odd}

-- "ascending and disjoint, and that rule is shown once for the whole table"
abbrev pub TableAscends : Type 0
TableAscends = ascends (edges ranges) ≡ true

-- "a search in it must agree with the plain reading of the ranges": of every table with that rule
abbrev pub SearchAgrees : Type 0
SearchAgrees = (rs : List Range) (v : ℕ) → ascends (edges rs) ≡ true → odd (count_up_to v (edges rs)) ≡ wide_in rs v

-- "A row's width is now the sum of its characters' cells": a row leaves no box that is as wide as it, and every narrower one; and it
-- leaves at "the first character whose last cell lies outside"
pub record LeavesByWidth : Type 0 where
  pub fits : (cells tab : ℕ) (row : List ℕ) → width tab row ≤ cells → first_outside cells tab row ≡ None
  pub fitted : (cells tab : ℕ) (row : List ℕ) → first_outside cells tab row ≡ None → width tab row ≤ cells
  pub first : (cells tab c : ℕ) (row : List ℕ) → first_outside cells tab row ≡ Some c
      → (c < length row) × (width tab (take c row) ≤ cells) × (cells < width tab (take (suc c) row))

-- document 01's "One character is one cell", of a row with neither tabs nor wide characters: it is as wide as it is long
abbrev pub AsWideAsLong : Type 0
AsWideAsLong = (tab : ℕ) (row : List ℕ) → all (λ x. not (eqb x 9 || is_wide x)) row ≡ true → width tab row ≡ length row
