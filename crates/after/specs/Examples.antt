-- What rules out wrong shifts: each line is what the promise asks for at one input, and above it stands the program that answers something
-- else there. In a text "/" is LF, 10; a is 97, X is 88.
use Rattle.std.specs.Prelude.{◌≡◌, false, [], ◌∷◌}
use Rattle.text.specs.Rows.{at}
use Rattle.after.specs.After.{after_insert, after_delete_char, after_delete_lines, after_delete_block, after_join, after_delete_block_chunks}

pub record RuledOut : Type 0 where
  -- "XY" in its row: counted from the row's number. "X/Y": all that stands behind it put on one column
  pub insert : after_insert (at 1 2) (at 1 0) (88 ∷ 89 ∷ []) ≡ at 1 4
  pub insert_break : after_insert (at 0 3) (at 0 1) (88 ∷ 10 ∷ 89 ∷ []) ≡ at 1 3
  -- what stands behind a cut kept in its column; rows below it not moved up
  pub cut : after_delete_char (at 0 5) (at 0 1) (at 0 3) ≡ at 0 3
  pub cut_below : after_delete_char (at 4 7) (at 0 1) (at 1 1) ≡ at 3 7
  -- a position in a deleted row one column late
  pub line : after_delete_lines (at 0 1) 0 0 ≡ at 0 0
  -- a position inside a deleted block on its right column
  pub block : after_delete_block (at 0 2) (at 0 1) (at 0 3) ≡ at 0 1
  -- a position inside a deleted chunk kept
  pub chunk : after_delete_block_chunks (at 0 1) (at 0 0) (2 ∷ []) ≡ at 0 0
  -- "a/b/c": a count of 0 that joins no row, a position put on its row's start; rows below put on the join
  pub join : after_join (at 1 1) 0 0 false (97 ∷ 10 ∷ 98 ∷ 10 ∷ 99 ∷ []) ≡ at 0 2
  pub join_below : after_join (at 2 1) 0 1 false (97 ∷ 10 ∷ 98 ∷ 10 ∷ 99 ∷ []) ≡ at 1 1
