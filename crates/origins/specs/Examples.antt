-- Origins by computation: what rules out wrong definitions of them, each named above its line.
-- In a text "/" is LF, 10; a is 97, X is 88, a space 32.
use Rattle.std.specs.Prelude.{true, List, [], ◌∷◌, map, ◌≡◌, ℕ}
use Rattle.text.specs.Rows.{at}
use Rattle.edit.specs.declared.MotionKind.TheVariants.{Char}
use Rattle.edit.specs.declared.Edit.TheVariants.{InsertStr, DeleteRange, JoinLines, SplitLines, Replace, InsertBlock}
use Rattle.edit.specs.Edits.{Whole, whole, row_at}
use Rattle.origins.specs.Origins.{Origin, opening, payload, padding, join_space, split_break, Traced, opened, traced_run}

-- the edits of ws on t leave characters from these origins
abbrev pub From : List ℕ → List (Whole ℕ) → List Origin → Type 0
From t ws os = map (λ (c : Traced). c.origin) (traced_run 0 (opened t) ws) ≡ os

pub record RuledOut : Type 0 where
  -- "a/b": an LF that has no place, and places that are counted through it
  pub opened : From (97 ∷ 10 ∷ 98 ∷ []) [] (opening (at 0 0) ∷ opening (at 0 1) ∷ opening (at 1 0) ∷ [])
  -- "//": every LF from the place of the first
  pub breaks : From (10 ∷ 10 ∷ []) [] (opening (at 0 0) ∷ opening (at 1 0) ∷ [])
  -- payload characters counted from 1, and edits too: "ab", "X/" at (0,1), then "X" at (0,0)
  pub inserted :
      From (97 ∷ 98 ∷ []) (whole (InsertStr (at 0 1)) (88 ∷ 10 ∷ []) [] [] ∷ whole (InsertStr (at 0 0)) (88 ∷ []) [] [] ∷ [])
      (payload 1 0 ∷ opening (at 0 0) ∷ payload 0 0 ∷ payload 0 1 ∷ opening (at 0 1) ∷ [])
  -- request 8: "A character put back by an inverse belongs to that later edit.": "ab", cut and put back
  pub back : From (97 ∷ 98 ∷ []) (whole (DeleteRange (at 0 0) (at 0 1) Char) [] [] [] ∷ whole (InsertStr (at 0 0)) (97 ∷ []) [] [] ∷ []) (payload 1 0 ∷ opening (at 0 1) ∷ [])
  -- a letter replaced by itself taken for the old one
  pub replaced : From (97 ∷ []) (whole (Replace (at 0 0) (at 0 1)) (97 ∷ []) [] [] ∷ []) (payload 0 0 ∷ [])
  -- request 8: "padding, join spaces and split breaks name their edit as such": "a/b" joined with a space; "ab" split at 1; "a" padded to column 2
  pub joined : From (97 ∷ 10 ∷ 98 ∷ []) (whole (InsertStr (at 0 0)) [] [] [] ∷ whole (JoinLines (row_at 0) 1 true) [] [] [] ∷ []) (opening (at 0 0) ∷ join_space 1 ∷ opening (at 1 0) ∷ [])
  pub split : From (97 ∷ 98 ∷ []) (whole (InsertStr (at 0 0)) [] [] [] ∷ whole (SplitLines (row_at 0)) [] (1 ∷ []) [] ∷ []) (opening (at 0 0) ∷ split_break 1 ∷ opening (at 0 1) ∷ [])
  pub padded : From (97 ∷ []) (whole (InsertStr (at 0 0)) [] [] [] ∷ whole (InsertBlock (at 0 2)) (88 ∷ []) (1 ∷ []) [] ∷ []) (opening (at 0 0) ∷ padding 1 ∷ payload 1 0 ∷ [])
  -- a block's characters counted in their chunk and not in the whole payload: "/", "X" and "X" at (0,0)
  pub chunks : From (10 ∷ []) (whole (InsertBlock (at 0 0)) (88 ∷ 88 ∷ []) (1 ∷ 1 ∷ []) [] ∷ []) (payload 0 0 ∷ opening (at 0 0) ∷ payload 0 1 ∷ [])
