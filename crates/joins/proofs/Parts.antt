-- The rows of a text up to where row r + k ends, as the joins of row r with k rows see them.
use mathlib.Core.Path.{◌≡◌, refl, sym, ap, ◌∙◌}
use mathlib.Core.List.{List, [], ◌∷◌, ◌++◌}
use Prim.Native.Nat.{ℕ, zero, suc, ◌+◌, ◌≤◌, ◌<◌, min}
use native.Mathlib.Omega.{arith}
use lib.ListN.{length, take, drop, get_or, length-append, length-take, length-drop, drop_of_length-le}
use lib.Seq.{take_all, take-add, drop_at, length-take-le}
use Rattle.text.specs.Rows.{Line, line, lines, last_row, row_len, row_end, span}
use Rattle.text.specs.Text.{is_lf}
use Rattle.text.proofs.Changes.{row_of, row_exists, row_from}
use Rattle.text.proofs.Fronts.{bared, front-count, front-from, front-start}
use Rattle.joins.proofs.JoinTurns.{below_of, row_at, below_count}

abbrev pub rows_above : List ℕ → ℕ → List (Line ℕ)
rows_above t r = take r (lines is_lf t)

-- ---- a row x and rows B below it, up to row k of them

module _ (x : Line ℕ) (B : List (Line ℕ)) where
  abbrev pub up_to : ℕ → List (Line ℕ)
  up_to k = take k (x ∷ B) ++ (bared (get_or (x ∷ B) k (line [] [])) ∷ [])

  abbrev pub first : ℕ → Line ℕ
  first k = get_or (up_to k) 0 (line [] [])

  abbrev pub below : ℕ → List (Line ℕ)
  below k = drop 1 (up_to k)

  up_to_length : (k : ℕ) → k ≤ length B → length (up_to k) ≡ suc k
  up_to_length k l = omega (arith, length-append (take k (x ∷ B)) (bared (get_or (x ∷ B) k (line [] [])) ∷ []), length-take k (x ∷ B))

  up_to_first : (k : ℕ) → (first k).body ≡ x.body
  up_to_first zero = refl
  up_to_first (suc k) = refl

  below_length : (k : ℕ) → k ≤ length B → length (below k) ≤ k
  below_length k l = omega (arith, length-drop 1 (up_to k), up_to_length k l)

  pub below_all : (j : ℕ) → j < length B → take (suc j) (below (suc j)) ≡ take j B ++ (bared (get_or B j (line [] [])) ∷ [])
  below_all j l = take_all (suc j) (below (suc j)) (below_length (suc j) l)

  pub up_to_rest : (k : ℕ) → k ≤ length B → drop k (below k) ≡ []
  up_to_rest k l = drop_of_length-le (below k) (below_length k l)

-- ---- the text t up to where row r + k ends

module _ (t : List ℕ) (r k : ℕ) (h : r + k ≤ last_row is_lf t) where
  abbrev part : List ℕ
  part = take (row_end is_lf t (r + k)) t

  pub few : k ≤ length (below_of t r)
  few = omega (arith, below_count t r)

  pub part-last : last_row is_lf part ≡ r + k
  unfolding last_row
  part-last = omega (arith, front-count t (r + k) h)

  rows_of : drop r (take (r + k) (lines is_lf t)) ≡ take k (row_of t r ∷ below_of t r)
  rows_of =
      let L = lines is_lf t in
      rw (take-add r k L, ← row_from t r (omega arith)) (drop_at (take r L) (take k (drop r L)) r (length-take-le r L (omega (arith, row_exists t r (omega arith)))))

  part-from : row_of part r ∷ below_of part r ≡ up_to (row_of t r) (below_of t r) k
  part-from = sym (row_from part r (omega (arith, part-last))) ∙ front-from t (r + k) h r (omega arith) ∙ rw (rows_of, row_at t r k (omega arith))

  pub part-row : row_of part r ≡ first (row_of t r) (below_of t r) k
  part-row = ap (λ (l : List (Line ℕ)). get_or l 0 (line [] [])) part-from

  pub part-below : below_of part r ≡ below (row_of t r) (below_of t r) k
  part-below = ap (drop 1) part-from

  pub part-span : span is_lf part r ≡ span is_lf t r
  unfolding span row_len
  part-span =
      let m : min r (last_row is_lf part) ≡ r = omega (arith, part-last) in
      let n : min r (last_row is_lf t) ≡ r = omega arith in
      rw (m, n, front-start t (r + k) h r (omega arith), part-row, up_to_first (row_of t r) (below_of t r) k)
