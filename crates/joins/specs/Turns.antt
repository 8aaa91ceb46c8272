-- What the functions of joins and splits promise to one another. The edits themselves are `joined` and `split` of the crate edit.
use Rattle.std.specs.Prelude.{Bool, cond, ◌&&◌, List, [], ◌∷◌, ℕ, suc, ◌+◌, ◌-◌, min, ltb, length, take, drop, get_or}
use Rattle.std.proofs.Math.Seq.{slice}
use Rattle.promise.specs.Slices.{over}
use Rattle.text.specs.Rows.{line, lines, row_len, span, char_at, at}
use Rattle.text.specs.Text.{is_lf, renewed}
use Rattle.edit.specs.declared.Edit.TheVariants.{SplitLines}
use Rattle.edit.specs.Edits.{Edited, edited, whole, row_at, from_row, join_row, join_cols, join_flags, joined, unspace}
use Rattle.edit.specs.Refusals.{is_space, spaces}
use Rattle.edit.specs.Call.{plan_of}
use Rattle.joins.specs.declared.JoinPlan.{JoinPlan}
use Rattle.joins.specs.declared.JoinTurn.{JoinTurn}
use Rattle.joins.specs.declared.SplitTurn.{SplitTurn}

-- ---- joins

-- how many spaces a join puts between rows of these lengths
unfoldable pub gap_len : Bool → ℕ → ℕ → ℕ
gap_len b m n = cond (b && ltb 0 m && ltb 0 n) 1 0

-- the join of a row of `left` characters, whose LF stands at offset e, with the row behind it
abbrev pub join_turn : List ℕ → ℕ → ℕ → Bool → JoinTurn
join_turn t e left b = let n = row_len is_lf (drop (e + 1) t) 0 in record { gap = gap_len b left n; len = n }

-- where the last row ends that is joined to row r, and what rows 8 and 9 are about
abbrev pub join_plan : List ℕ → ℕ → ℕ → Bool → JoinPlan
join_plan t r count b = let d = joined is_lf is_space spaces t r count b in record { end = (span is_lf t (r + length d.inverse.first)).end; sizes = plan_of d }

-- so many joins of row r with the rows below it, where there are so many
unfoldable pub joins : List ℕ → ℕ → Bool → ℕ → Edited ℕ
joins t r b k =
    let x = get_or (lines is_lf t) r (line [] []) in
    let below = drop (suc r) (lines is_lf t) in
    edited (from_row (lines is_lf t) r (join_row 32 b x (take k below) ∷ drop k below))
    (whole (SplitLines (row_at r)) [] (join_cols 32 b x (take k below)) (join_flags 32 b x (take k below))) (at r 0)

-- the text's buffer, and the slices for the columns and the flags
pub record Slices : Type 0 where
  pub text : List ℕ
  pub cols : List ℕ
  pub flags : List ℕ

abbrev pub slices : List ℕ → List ℕ → List ℕ → Slices
slices t c f = record { text = t; cols = c; flags = f }

-- what an edit leaves in them
abbrev pub filled : Slices → ℕ → Edited ℕ → Slices
filled s used d = slices (renewed s.text used d.text) (over d.inverse.first s.cols) (over d.inverse.second s.flags)

-- ---- splits

-- how many characters go where the row z is split at column c
unfoldable pub gone_at : List ℕ → ℕ → ℕ → ℕ
gone_at z c f = length (drop c z) - length (unspace is_lf is_space spaces f (drop c z))

-- the split at column c of the row that stands from offset s up to e
abbrev pub split_turn : List ℕ → ℕ → ℕ → ℕ → ℕ → SplitTurn
split_turn t s e c f = let z = slice s e t in record { at = char_at (s + min c (length z)); gone = gone_at z c f }
