-- Examples of shifts, as the whole call. In a text "/" is LF, 10; a is 97, a space 32.
use Rattle.std.specs.Prelude.{true, false, List, [], ◌∷◌, ◌++◌, ◌≡◌, ℕ, length, replicate}
use Rattle.promise.specs.Paper.{Paper, done, refused}
use Rattle.text.specs.declared.Position.{Position}
use Rattle.text.specs.Rows.{at}
use Rattle.edit.specs.declared.MotionKind.TheVariants.{Char, Line as Lines, Block}
use Rattle.edit.specs.declared.Edit.{Edit}
use Rattle.edit.specs.declared.Edit.TheVariants.{InsertStr, DeleteRange, JoinLines, SplitLines, Replace, InsertBlock, DeleteBlockChunks}
use Rattle.edit.specs.Edits.{row_at}
use Rattle.select.specs.Sels.{sel}
use Rattle.shift.specs.Answers.{Followed, to, dropped}
use Rattle.shift.specs.Call.{position_shifted, sel_shifted, carried_over}
use Rattle.shift.specs.Theorems.{Unchanged}

-- in a buffer with three places behind the text
abbrev pub shift_of : List ℕ → Edit → List ℕ → List ℕ → Position → Paper (Followed Position)
shift_of t e x f p = position_shifted (t ++ replicate 3 7) (length t) e x f [] p

-- over the edit of the text t, the position p lands at q
abbrev pub Lands : List ℕ → Edit → List ℕ → List ℕ → Position → Position → Type 0
Lands t e x f p q = shift_of t e x f p ≡ done (to q)

-- "ab/cd"
abbrev pub abcd : List ℕ
abcd = 97 ∷ 98 ∷ 10 ∷ 99 ∷ 100 ∷ []

pub record Examples : Type 0 where
  -- document 01's run: over "X/" at (0,1), the mark (1,1)-(1,2)
  pub run : sel_shifted abcd 5 (InsertStr (at 0 1)) (88 ∷ 10 ∷ []) [] [] (sel (at 1 1) (at 1 2)) ≡ done (to (sel (at 2 1) (at 2 2)))
  -- an end at the insertion moves with the text behind it, and the ends keep their direction
  pub run_back : sel_shifted abcd 5 (InsertStr (at 0 1)) (88 ∷ 10 ∷ []) [] [] (sel (at 1 2) (at 0 1)) ≡ done (to (sel (at 2 2) (at 1 0)))
  -- a join without a space, two joins of which one has an empty side, and a row below them
  pub join_plain : Lands abcd (JoinLines (row_at 0) 1 false) [] [] (at 1 2) (at 0 4)
  pub join_empty : Lands (97 ∷ 10 ∷ 10 ∷ 98 ∷ []) (JoinLines (row_at 0) 2 true) [] [] (at 2 1) (at 0 3)
  pub join_below : Lands (97 ∷ 10 ∷ 98 ∷ 10 ∷ 99 ∷ []) (JoinLines (row_at 0) 1 true) [] [] (at 2 1) (at 1 1)
  -- inside a cut, behind its end, and below it
  pub cut_inside : Lands abcd (DeleteRange (at 0 1) (at 1 1) Char) [] [] (at 1 0) (at 0 1)
  pub cut_end : Lands abcd (DeleteRange (at 0 1) (at 1 1) Char) [] [] (at 1 2) (at 0 2)
  pub cut_below : Lands abcd (DeleteRange (at 0 1) (at 1 1) Char) [] [] (at 4 7) (at 3 7)
  -- rows that go, and a row below them
  pub line_gone : Lands abcd (DeleteRange (at 0 9) (at 0 2) Lines) [] [] (at 0 1) (at 0 0)
  pub line_below : Lands abcd (DeleteRange (at 0 9) (at 0 2) Lines) [] [] (at 1 1) (at 0 1)
  -- left of, inside and right of a block, whose ends may be in any order
  pub block_left : Lands abcd (DeleteRange (at 1 2) (at 0 1) Block) [] [] (at 1 0) (at 1 0)
  pub block_inside : Lands abcd (DeleteRange (at 1 1) (at 0 0) Block) [] [] (at 1 1) (at 1 0)
  pub block_right : Lands abcd (DeleteRange (at 1 1) (at 0 0) Block) [] [] (at 0 2) (at 0 0)
  -- what stands at the end of a replace goes behind what it puts in
  pub replaced : Lands abcd (Replace (at 0 0) (at 0 1)) (97 ∷ 97 ∷ []) [] (at 0 1) (at 0 2)
  -- each row of a block has its own width
  pub block_second : Lands abcd (InsertBlock (at 0 1)) (88 ∷ 89 ∷ 89 ∷ []) (1 ∷ 2 ∷ []) (at 1 1) (at 1 3)
  pub block_below : Lands abcd (InsertBlock (at 0 1)) (88 ∷ []) (1 ∷ []) (at 1 1) (at 1 1)
  pub chunk_inside : Lands abcd (DeleteBlockChunks (at 0 0)) [] (1 ∷ 2 ∷ []) (at 1 1) (at 1 0)
  pub chunk_second : Lands abcd (DeleteBlockChunks (at 0 0)) [] (1 ∷ 2 ∷ []) (at 1 2) (at 1 0)
  -- "SplitLines answers Dropped, which is no refusal."
  pub split : shift_of abcd (SplitLines (row_at 0)) [] [] (at 0 0) ≡ done dropped
  pub split_sel : sel_shifted abcd 5 (SplitLines (row_at 0)) [] [] [] (sel (at 0 0) (at 0 1)) ≡ done dropped
  -- one that is carried along is dropped where an end is past 1,000,000
  pub carried : carried_over abcd (InsertStr (at 0 0)) [] [] (sel (at 0 0) (at 0 1_000_001)) ≡ dropped
  -- raw positions may lie outside of the text and pass 1,000,000
  pub outside : Lands [] (InsertStr (at 0 0)) (97 ∷ []) [] (at 0 1_000_000) (at 0 1_000_001)

-- "in order of checking": each of the first five is refused also by every later one
pub record FirstRefusals : Type 0 where
  pub bad_text : shift_of (11 ∷ []) (Replace (at 0 1) (at 0 0)) (11 ∷ replicate 16_384 97) [] (at 0 1_000_001) ≡ refused 1 0
  pub too_big : shift_of [] (Replace (at 0 1) (at 0 0)) (11 ∷ replicate 16_384 97) [] (at 0 1_000_001) ≡ refused 2 0
  pub too_many : shift_of [] (Replace (at 0 1) (at 0 0)) (11 ∷ replicate 16_384 97) [] (at 0 0) ≡ refused 3 0
  pub bad_payload : shift_of [] (Replace (at 0 1) (at 0 0)) (11 ∷ []) [] (at 0 0) ≡ refused 4 0
  pub reversed_replace : shift_of [] (Replace (at 0 1) (at 0 0)) [] [] (at 0 0) ≡ refused 6 0
  pub reversed_char : shift_of [] (DeleteRange (at 1 0) (at 0 0) Char) [] [] (at 1 1) ≡ refused 6 0
  pub reversed_line : shift_of [] (DeleteRange (at 1 0) (at 0 0) Lines) [] [] (at 1 0) ≡ refused 6 0
  -- both ends of a selection are judged together: a head too big is 2 before 257 columns are 3, and before a split drops
  pub head_too_big : sel_shifted [] 0 (SplitLines (row_at 0)) [] (replicate 257 0) [] (sel (at 0 0) (at 1_000_001 0)) ≡ refused 2 0
  pub split_too_big : sel_shifted [] 0 (SplitLines (row_at 0)) [] [] [] (sel (at 0 1_000_001) (at 0 0)) ≡ refused 2 0

-- Edits that change nothing and still move a position, as the original's do. In the text: the cut of "abc" from (0,2) to (9,0),
-- which clamping puts out of order; a letter replaced by itself. Outside of it: the empty text's line deleted; a block past the
-- row's end.
pub record Moves : Type 0 where
  pub cut : Lands (97 ∷ 98 ∷ 99 ∷ []) (DeleteRange (at 0 2) (at 9 0) Char) [] [] (at 0 3) (at 0 2)
  pub cut_unchanged : Unchanged (97 ∷ 98 ∷ 99 ∷ []) (DeleteRange (at 0 2) (at 9 0) Char) [] [] []
  pub same_letter : Lands (97 ∷ []) (Replace (at 0 0) (at 0 1)) (97 ∷ []) [] (at 0 0) (at 0 1)
  pub same_unchanged : Unchanged (97 ∷ []) (Replace (at 0 0) (at 0 1)) (97 ∷ []) [] []
  pub empty_line : Lands [] (DeleteRange (at 0 0) (at 0 0) Lines) [] [] (at 1 0) (at 0 0)
  pub empty_unchanged : Unchanged [] (DeleteRange (at 0 0) (at 0 0) Lines) [] [] []
  pub past_row : Lands (97 ∷ []) (DeleteRange (at 0 5) (at 0 5) Block) [] [] (at 0 9) (at 0 8)
  pub past_unchanged : Unchanged (97 ∷ []) (DeleteRange (at 0 5) (at 0 5) Block) [] [] []
