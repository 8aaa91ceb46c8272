-- A text up to where one of its rows ends, without what ends it.
use mathlib.Core.Path.{◌≡◌, ◌∙◌, ap}
use mathlib.Core.List.{List, [], ◌∷◌, ◌++◌, append_assoc, append-nil}
use Prim.Native.Nat.{ℕ, suc, ◌+◌, ◌-◌, ◌≤◌}
use native.Mathlib.Omega.{arith}
use lib.ListN.{length, take, drop, length-append, length-drop}
use lib.Seq.{take-take, take-append-le, drop-append-le, take-append-add, drop-append-add, take-append_seam, drop-append_seam, length-take-le}
use Rattle.text.specs.Rows.{Line, line, lines, unlines, row_count, last_row, row_len, row_start, row_end}
use Rattle.text.specs.Text.{is_lf}
use Rattle.text.proofs.Broken.{final, next, unlines-append}
use Rattle.text.proofs.Ended.{Ended}
use Rattle.text.proofs.Changes.{row_of, whole_row, row_exists, rows-around, rows-changed, rows-below, text-around}

-- a row without what ends it
abbrev pub bared : Line ℕ → Line ℕ
bared x = line x.body []

ended_bared : {x : Line ℕ} {B : List (Line ℕ)} → Ended (x ∷ B) → Ended (bared x ∷ [])
ended_bared (final b p) = final b p
ended_bared (next b x p q h) = final b p

module _ (t : List ℕ) (j : ℕ) (h : j ≤ last_row is_lf t) where
  front-text : take (row_end is_lf t j) t ≡ unlines (take j (lines is_lf t) ++ bared (row_of t j) ∷ [])
  unfolding row_start row_len unlines
  front-text =
      let A = unlines (take j (lines is_lf t)) in
      let z = row_of t j in
      let B = unlines (drop (suc j) (lines is_lf t)) in
      ap (take (length A + length z.body)) (text-around t j h) ∙ take-append-add A (whole_row z ++ B) (length z.body)
      ∙ rw (append_assoc z.body z.after B, take-append_seam z.body (z.after ++ B), unlines-append (take j (lines is_lf t)) (bared z ∷ []), append-nil)

  front-lines : lines is_lf (take (row_end is_lf t j) t) ≡ take j (lines is_lf t) ++ bared (row_of t j) ∷ []
  front-lines = ap (lines is_lf) front-text ∙ rows-changed t j h (bared (row_of t j) ∷ []) (ended_bared (rows-below t j h))

  pub behind-front : drop (row_end is_lf t j) t ≡ (row_of t j).after ++ unlines (drop (suc j) (lines is_lf t))
  unfolding row_start row_len
  behind-front =
      let A = unlines (take j (lines is_lf t)) in
      let z = row_of t j in
      let B = unlines (drop (suc j) (lines is_lf t)) in
      ap (drop (length A + length z.body)) (text-around t j h) ∙ drop-append-add A (whole_row z ++ B) (length z.body)
      ∙ rw (append_assoc z.body z.after B, drop-append_seam z.body (z.after ++ B))

  above_long : length (take j (lines is_lf t)) ≡ j
  above_long = length-take-le j (lines is_lf t) (omega (arith, row_exists t j h))

  pub front-count : row_count is_lf (take (row_end is_lf t j) t) ≡ suc j
  unfolding row_count
  front-count = ap length front-lines ∙ omega (arith, length-append (take j (lines is_lf t)) (bared (row_of t j) ∷ []), above_long)

  -- its rows from one that is not below j, and the text's
  module _ (r : ℕ) (l : r ≤ j) where
    pub front_above : take r (lines is_lf (take (row_end is_lf t j) t)) ≡ take r (lines is_lf t)
    front_above = rw front-lines (take-append-le r (take j (lines is_lf t)) (bared (row_of t j) ∷ []) (omega (arith, above_long)) ∙ take-take r j (lines is_lf t) l)

    pub front-from : drop r (lines is_lf (take (row_end is_lf t j) t)) ≡ drop r (take j (lines is_lf t)) ++ bared (row_of t j) ∷ []
    front-from = rw front-lines (drop-append-le r (take j (lines is_lf t)) (bared (row_of t j) ∷ []) (omega (arith, above_long)))

    pub whole_from : drop r (lines is_lf t) ≡ drop r (take j (lines is_lf t)) ++ row_of t j ∷ drop (suc j) (lines is_lf t)
    whole_from = ap (drop r) (rows-around t j h) ∙ drop-append-le r (take j (lines is_lf t)) (row_of t j ∷ drop (suc j) (lines is_lf t)) (omega (arith, above_long))

    pub rows-between : length (drop r (take j (lines is_lf t))) ≡ j - r
    rows-between = omega (arith, length-drop r (take j (lines is_lf t)), above_long)

    pub front-start : row_start is_lf (take (row_end is_lf t j) t) r ≡ row_start is_lf t r
    unfolding row_start
    front-start = ap (λ (l : List (Line ℕ)). length (unlines l)) front_above
