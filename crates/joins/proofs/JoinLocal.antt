-- The joins of a row change nothing behind the last row that they join: they may be made on the text up to its end.
use mathlib.Core.Path.{◌≡◌, refl, sym, ap, ◌∙◌}
use mathlib.Core.Bool.{Bool}
use mathlib.Core.List.{List, [], ◌∷◌, ◌++◌, append-nil, append_assoc}
use Prim.Native.Nat.{ℕ, zero, suc, ◌+◌, ◌≤◌}
use native.Mathlib.Omega.{arith}
use lib.ListN.{length, take, drop, get_or}
use lib.Seq.{take-suc}
use Rattle.text.specs.Rows.{Line, line, unlines, last_row, row_end}
use Rattle.text.specs.Text.{is_lf}
use Rattle.text.proofs.Broken.{unlines-append}
use Rattle.text.proofs.Changes.{row_of}
use Rattle.text.proofs.Fronts.{bared, front_above}
use Rattle.edit.specs.Edits.{Edited, edited, join_row, join_cols, join_flags}
use Rattle.edit.proofs.Joins.{join_row-snoc, join_cols-snoc, join_flags-snoc}
use Rattle.joins.specs.Turns.{joins}
use Rattle.joins.proofs.JoinTurns.{below_of, row_to}
use Rattle.joins.proofs.JoinPlans.{walked_row}
use Rattle.joins.proofs.Parts.{first, below, below_all, up_to_rest, rows_above, few, part-row, part-below}

-- ---- the joins of a row x with the rows B below it, up to row k of them

module _ (x : Line ℕ) (B : List (Line ℕ)) (b : Bool) where
  up_to_row : (k : ℕ) → k ≤ length B → join_row 32 b (first x B k) (take k (below x B k)) ≡ bared (join_row 32 b x (take k B))
  unfolding join_row
  up_to_row zero l = refl
  up_to_row (suc j) l = let y = get_or B j (line [] []) in rw (below_all x B j l, take-suc B j (line [] []) l, join_row-snoc b (bared y) x (take j B), join_row-snoc b y x (take j B))

  up_to_cols : (k : ℕ) → k ≤ length B → join_cols 32 b (first x B k) (take k (below x B k)) ≡ join_cols 32 b x (take k B)
  unfolding join_cols
  up_to_cols zero l = refl
  up_to_cols (suc j) l = let y = get_or B j (line [] []) in rw (below_all x B j l, take-suc B j (line [] []) l, join_cols-snoc b (bared y) x (take j B), join_cols-snoc b y x (take j B))

  up_to_flags : (k : ℕ) → k ≤ length B → join_flags 32 b (first x B k) (take k (below x B k)) ≡ join_flags 32 b x (take k B)
  unfolding join_flags
  up_to_flags zero l = refl
  up_to_flags (suc j) l = let y = get_or B j (line [] []) in rw (below_all x B j l, take-suc B j (line [] []) l, join_flags-snoc b (bared y) x (take j B), join_flags-snoc b y x (take j B))

  -- what ends the last row joined ends the row then
  row_after : (k : ℕ) → k ≤ length B → (join_row 32 b x (take k B)).after ≡ (get_or (x ∷ B) k (line [] [])).after
  unfolding join_row
  row_after zero l = refl
  row_after (suc j) l = let y = get_or B j (line [] []) in rw (take-suc B j (line [] []) l, join_row-snoc b y x (take j B))

-- ---- of row r of the text t with k rows

module _ (t : List ℕ) (r k : ℕ) (h : r + k ≤ last_row is_lf t) (b : Bool) where
  pub part-joins : joins (take (row_end is_lf t (r + k)) t) r b k ≡ edited (unlines (rows_above t r) ++ (row_to t r b k).body) (joins t r b k).inverse (joins t r b k).cursor
  unfolding joins unlines
  part-joins =
      let x = row_of t r in
      let B = below_of t r in
      let l = few t r k h in
      rw (front_above t (r + k) h r (omega arith), part-row t r k h, part-below t r k h, up_to_row x B b k l, up_to_cols x B b k l, up_to_flags x B b k l, up_to_rest x B k l, unlines-append (rows_above t r) (bared (row_to t r b k) ∷ []), append-nil (row_to t r b k).body)

  pub part-whole : (joins t r b k).text ≡ (joins (take (row_end is_lf t (r + k)) t) r b k).text ++ drop (row_end is_lf t (r + k)) t
  unfolding joins unlines
  part-whole =
      let z = row_to t r b k in
      let R = unlines (drop k (below_of t r)) in
      unlines-append (rows_above t r) (z ∷ drop k (below_of t r)) ∙ sym (append_assoc (unlines (rows_above t r)) z.body (z.after ++ R))
      ∙ rw (row_after (row_of t r) (below_of t r) b k (few t r k h)) (ap (◌++◌ (unlines (rows_above t r) ++ z.body)) (sym (walked_row t r k h)))
      ∙ sym (ap (λ (d : Edited ℕ). d.text ++ drop (row_end is_lf t (r + k)) t) part-joins)
