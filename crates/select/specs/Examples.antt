-- What rules out wrong operations on selections: each line is what the promise asks for at one input, and above it stands the program that
-- answers something else there.
use Rattle.std.specs.Prelude.{◌≡◌, false}
use Rattle.text.specs.Rows.{at}
use Rattle.select.specs.declared.Selection.TheVariants.{Char, Line, Block}
use Rattle.select.specs.Sels.{sel, is_caret, end, overlaps}
use Rattle.select.specs.Selections.{head_of, anchor_of, extended, row_span, bounds, row_bounds}
use Rattle.select.specs.Answers.{between, from}

pub record RuledOut : Type 0 where
  -- a new selection from its head to its anchor
  pub made : (sel (at 0 1) (at 2 3)).head ≡ at 2 3
  -- an end that is the anchor
  pub ends : end (sel (at 0 1) (at 2 3)) ≡ at 2 3
  -- a caret within one row, or within one column
  pub in_row : is_caret (sel (at 0 1) (at 0 2)) ≡ false
  pub in_column : is_caret (sel (at 0 1) (at 2 1)) ≡ false
  -- a selection that overlaps all that end before it
  pub apart : overlaps (sel (at 0 5) (at 0 6)) (sel (at 0 0) (at 0 1)) ≡ false
  -- the head of a Char selection its anchor, and the anchor of a Block selection its head
  pub head : head_of (Char (at 0 1) (at 2 3)) ≡ at 2 3
  pub anchor : anchor_of (Block (at 0 1) (at 2 3)) ≡ at 0 1
  -- a Char selection extended from the new position to its old anchor
  pub extends : extended (Char (at 0 1) (at 2 3)) (at 4 5) ≡ Char (at 0 1) (at 4 5)
  -- a Block selection that loses its anchor when extended
  pub extends_block : extended (Block (at 0 1) (at 2 3)) (at 4 5) ≡ Block (at 0 1) (at 4 5)
  -- the last row of a Char selection covered from its end on
  pub last_row : row_span (Char (at 0 1) (at 2 3)) 2 ≡ between 0 3
  -- a Block selection that covers its left column alone
  pub wide : row_span (Block (at 0 1) (at 2 3)) 1 ≡ between 1 3
  -- a Line selection that covers no row below its anchor, or starts at its anchor
  pub below : row_span (Line (record { 0 = 1 }) (record { 0 = 3 })) 2 ≡ from 0
  pub backward : row_bounds (Line (record { 0 = 5 }) (record { 0 = 2 })) ≡ bounds 2 5
