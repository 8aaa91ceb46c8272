-- What rules out wrong calls that edit nothing: each line is what the promise asks for at one input, and above it stands the program that
-- answers something else there. In a text "/" is LF, 10; a is 97.
use Rattle.std.specs.Prelude.{◌≡◌, true, false, List, [], ◌∷◌, ℕ}
use Rattle.promise.specs.Paper.{done, refused}
use Rattle.text.specs.Rows.{at}
use Rattle.edit.specs.declared.View.{View}
use Rattle.edit.specs.declared.MotionKind.TheVariants.{Line as Lines, Block}
use Rattle.edit.specs.declared.Edit.TheVariants.{InsertStr, DeleteRange, SplitLines, Replace}
use Rattle.edit.specs.Edits.{row_at}
use Rattle.edit.specs.Call.{lent, is_undoable, undoable}
use Rattle.view.specs.Calls.{with_cursor, cursor_set_in}

abbrev pub one : View
one = record { used = 1; cursor = at 0 0; changes = 5 }

-- "abc/d"
abbrev pub abcd : List ℕ
abcd = 97 ∷ 98 ∷ 99 ∷ 10 ∷ 100 ∷ []

pub record RuledOut : Type 0 where
  -- a cursor in what is no text; a cursor clamped in the empty text
  pub no_text : cursor_set_in (13 ∷ []) one (at 0 0) ≡ refused 1 0
  pub cursor : cursor_set_in (97 ∷ 98 ∷ []) one (at 0 1) ≡ done (with_cursor one (at 0 1))
  -- every edit answered with no; no line delete undoable, or a split undoable
  pub says_yes : undoable one (InsertStr (at 0 0)) (lent (97 ∷ []) [] [] [] [] [] []) ≡ done true
  pub split : is_undoable abcd (SplitLines (row_at 0)) ≡ false
  pub lines : is_undoable abcd (DeleteRange (at 0 0) (at 9 9) Lines) ≡ true
  -- a Replace judged by its second end
  pub replace : is_undoable abcd (Replace (at 0 0) (at 9 9)) ≡ true
  -- the last row of a text always wide enough; a Block delete from the last row on always undoable
  pub last_row : is_undoable abcd (DeleteRange (at 1 2) (at 1 3) Block) ≡ false
  -- a row that ends at the left column too short
  pub just_wide : is_undoable (97 ∷ 10 ∷ 98 ∷ []) (DeleteRange (at 0 1) (at 1 1) Block) ≡ true
  -- only the first row of a block asked about
  pub second_row : is_undoable abcd (DeleteRange (at 0 2) (at 1 2) Block) ≡ false
  -- the left column that of the first corner
  pub left : is_undoable abcd (DeleteRange (at 0 9) (at 1 1) Block) ≡ true
