-- Document 01's fourteen marked examples, one table: row counts, whole calls, and a whole script. In a text "/" is LF, 10; a is 97, X is
-- 88, a space 32.
use Rattle.std.specs.Prelude.{◌≡◌, true, false, List, [], ◌∷◌, ℕ, replicate}
use Rattle.promise.specs.Paper.{done}
use Rattle.text.specs.Rows.{at, row_count}
use Rattle.text.specs.Text.{is_lf}
use Rattle.edit.specs.declared.MotionKind.TheVariants.{Char, Line as Lines, Block}
use Rattle.edit.specs.declared.Edit.TheVariants.{InsertStr, DeleteRange, JoinLines, SplitLines, Replace, InsertBlock, DeleteBlockChunks}
use Rattle.edit.specs.Edits.{whole, row_at}
use Rattle.edit.specs.Call.{undoable}
use Rattle.edit.specs.Demand3.{view_at, lent_at}
use Rattle.edit.specs.Examples.{opened, beside, Gives, Refuses, plain, abcdef, abcd}
use Rattle.merge.specs.Call.{outcome, merged_in}
use Rattle.shift.specs.Examples.{Lands}
use Rattle.feed.specs.Scripts.{output}

-- the run's lines, character by character: 48 is 0, 97 is a, 10 ends a line
--     0161620a6364
--     0200000001000000010000000100000002
--     100000000000000001580a
abbrev pub input : List ℕ
input =
    48 ∷ 49 ∷ 54 ∷ 49 ∷ 54 ∷ 50 ∷ 48 ∷ 97 ∷ 54 ∷ 51 ∷ 54 ∷ 52 ∷ 10
    ∷ 48 ∷ 50 ∷ 48 ∷ 48 ∷ 48 ∷ 48 ∷ 48 ∷ 48 ∷ 48 ∷ 49 ∷ 48 ∷ 48 ∷ 48 ∷ 48 ∷ 48 ∷ 48 ∷ 48 ∷ 49 ∷ 48 ∷ 48 ∷ 48 ∷ 48 ∷ 48 ∷ 48 ∷ 48 ∷ 49 ∷ 48 ∷ 48 ∷ 48 ∷ 48 ∷ 48 ∷ 48 ∷ 48 ∷ 50 ∷ 10
    ∷ 49 ∷ 48 ∷ 48 ∷ 48 ∷ 48 ∷ 48 ∷ 48 ∷ 48 ∷ 48 ∷ 48 ∷ 48 ∷ 48 ∷ 48 ∷ 48 ∷ 48 ∷ 48 ∷ 48 ∷ 49 ∷ 53 ∷ 56 ∷ 48 ∷ 97 ∷ 10
    ∷ []

--     00110000000000000000010000000100000000
--     0161580a620a6364
--     0200000002000000010000000200000002
abbrev pub printed : List ℕ
printed =
    48 ∷ 48 ∷ 49 ∷ 49 ∷ 48 ∷ 48 ∷ 48 ∷ 48 ∷ 48 ∷ 48 ∷ 48 ∷ 48 ∷ 48 ∷ 48 ∷ 48 ∷ 48 ∷ 48 ∷ 48 ∷ 48 ∷ 48 ∷ 48 ∷ 49 ∷ 48 ∷ 48 ∷ 48 ∷ 48 ∷ 48 ∷ 48 ∷ 48 ∷ 49 ∷ 48 ∷ 48 ∷ 48 ∷ 48 ∷ 48 ∷ 48 ∷ 48 ∷ 48 ∷ 10
    ∷ 48 ∷ 49 ∷ 54 ∷ 49 ∷ 53 ∷ 56 ∷ 48 ∷ 97 ∷ 54 ∷ 50 ∷ 48 ∷ 97 ∷ 54 ∷ 51 ∷ 54 ∷ 52 ∷ 10
    ∷ 48 ∷ 50 ∷ 48 ∷ 48 ∷ 48 ∷ 48 ∷ 48 ∷ 48 ∷ 48 ∷ 50 ∷ 48 ∷ 48 ∷ 48 ∷ 48 ∷ 48 ∷ 48 ∷ 48 ∷ 49 ∷ 48 ∷ 48 ∷ 48 ∷ 48 ∷ 48 ∷ 48 ∷ 48 ∷ 50 ∷ 48 ∷ 48 ∷ 48 ∷ 48 ∷ 48 ∷ 48 ∷ 48 ∷ 50 ∷ 10
    ∷ []

pub record Marked : Type 0 where
  -- "1. Empty: one row."
  pub one : row_count is_lf [] ≡ 1
  -- "2. "a/": two."
  pub two : row_count is_lf (97 ∷ 10 ∷ []) ≡ 2
  -- "3. The run above."
  pub three : output input ≡ printed
  -- "4. "ab/cdef", Char (0,99)-(1,2): "abef", inverse at (0,99) "/cd", cursor (0,4), not undoable."
  pub four : Gives abcdef (plain (DeleteRange (at 0 99) (at 1 2) Char) []) (97 ∷ 98 ∷ 101 ∷ 102 ∷ []) (plain (InsertStr (at 0 99)) (10 ∷ 99 ∷ 100 ∷ [])) (at 0 4)
  pub four_undoable : undoable (view_at (opened abcdef) beside) (DeleteRange (at 0 99) (at 1 2) Char) (lent_at (opened abcdef) (plain (DeleteRange (at 0 99) (at 1 2) Char) []) beside) ≡ done false
  -- "5. "a/b", Line row 1: "a", inverse (0,1) "/b", cursor (0,0)."
  pub five : Gives (97 ∷ 10 ∷ 98 ∷ []) (plain (DeleteRange (at 1 0) (at 1 0) Lines) []) (97 ∷ []) (plain (InsertStr (at 0 1)) (10 ∷ 98 ∷ [])) (at 0 0)
  -- "6. "", Line: "" and empty inverse."
  pub six : Gives [] (plain (DeleteRange (at 0 0) (at 0 0) Lines) []) [] (plain (InsertStr (at 0 0)) []) (at 0 0)
  -- "7. "a//b", join 0 count 0 with space: "a/b", column 1, no space."
  pub seven : Gives (97 ∷ 10 ∷ 10 ∷ 98 ∷ []) (plain (JoinLines (row_at 0) 0 true) []) (97 ∷ 10 ∷ 98 ∷ []) (whole (SplitLines (row_at 0)) [] (1 ∷ []) (0 ∷ [])) (at 0 0)
  -- "8. "a/b/c", join 0 count 5 with space: "a b c", columns 1, 3, both spaced."
  pub eight : Gives (97 ∷ 10 ∷ 98 ∷ 10 ∷ 99 ∷ []) (plain (JoinLines (row_at 0) 5 true) []) (97 ∷ 32 ∷ 98 ∷ 32 ∷ 99 ∷ []) (whole (SplitLines (row_at 0)) [] (1 ∷ 3 ∷ []) (1 ∷ 1 ∷ [])) (at 0 0)
  -- "9. "abc/d", block at (0,2) "X","Y": "abXc/d Y", pads 0, 1."
  pub nine :
      Gives abcd (whole (InsertBlock (at 0 2)) (88 ∷ 89 ∷ []) (1 ∷ 1 ∷ []) []) (97 ∷ 98 ∷ 88 ∷ 99 ∷ 10 ∷ 100 ∷ 32 ∷ 89 ∷ [])
      (whole (DeleteBlockChunks (at 0 2)) [] (1 ∷ 1 ∷ []) (0 ∷ 1 ∷ [])) (at 0 2)
  -- "10. "abc/d", Block (0,2)-(1,2): "ab/d"; inverse gives "abc/d "."
  pub ten : Gives abcd (plain (DeleteRange (at 0 2) (at 1 2) Block) []) (97 ∷ 98 ∷ 10 ∷ 100 ∷ []) (whole (InsertBlock (at 0 2)) (99 ∷ []) (1 ∷ 0 ∷ []) []) (at 0 2)
  pub ten_back :
      Gives (97 ∷ 98 ∷ 10 ∷ 100 ∷ []) (whole (InsertBlock (at 0 2)) (99 ∷ []) (1 ∷ 0 ∷ []) []) (97 ∷ 98 ∷ 99 ∷ 10 ∷ 100 ∷ 32 ∷ [])
      (whole (DeleteBlockChunks (at 0 2)) [] (1 ∷ 0 ∷ []) (0 ∷ 1 ∷ [])) (at 0 2)
  -- "11. "abc", split 3 yes: "abc/"; 4 yes: refusal 7."
  pub eleven : Gives (97 ∷ 98 ∷ 99 ∷ []) (whole (SplitLines (row_at 0)) [] (3 ∷ []) (1 ∷ [])) (97 ∷ 98 ∷ 99 ∷ 10 ∷ []) (plain (JoinLines (row_at 0) 1 true) []) (at 0 0)
  pub eleven_refused : Refuses (97 ∷ 98 ∷ 99 ∷ []) (whole (SplitLines (row_at 0)) [] (4 ∷ []) (1 ∷ [])) 7
  -- "12. Selections (0,0)-(0,3), (0,5)-(0,3): (0,0)-(0,5)."
  pub twelve : merged_in (0 ∷ 0 ∷ 0 ∷ 3 ∷ 0 ∷ 5 ∷ 0 ∷ 3 ∷ []) (replicate 12 9) ≡ outcome (done 1) (0 ∷ 0 ∷ 0 ∷ 5 ∷ replicate 8 9)
  -- "13. "ab/cd" joined with space: (1,2) to (0,5)."
  pub thirteen : Lands (97 ∷ 98 ∷ 10 ∷ 99 ∷ 100 ∷ []) (JoinLines (row_at 0) 1 true) [] [] (at 1 2) (at 0 5)
  -- "14. Case 4 as Replace "X": "abefX"."
  pub fourteen :
      Gives abcdef (plain (Replace (at 0 99) (at 1 2)) (88 ∷ [])) (97 ∷ 98 ∷ 101 ∷ 102 ∷ 88 ∷ []) (plain (Replace (at 0 4) (at 0 5)) (10 ∷ 99 ∷ 100 ∷ [])) (at 0 5)
