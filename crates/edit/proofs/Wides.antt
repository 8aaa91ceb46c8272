-- Rows that are wide enough, read character by character.
use mathlib.Core.Path.{◌≡◌, refl, ◌∙◌}
use mathlib.Core.Bool.{Bool, true, false, ◌&&◌, ◌||◌, and-true}
use mathlib.Core.List.{List, [], ◌∷◌}
use Prim.Native.Nat.{ℕ, zero, suc, ◌+◌, ◌-◌, ◌≤◌, ◌<◌, min}
use native.Mathlib.Nat.{zero-add, add-zero}
use native.Mathlib.Numerals.{sub-one}
use native.Mathlib.Omega.{arith}
use borrow.Author.Tests.{eq-eqb, ne_eqb, le-leb, lt-leb}
use lib.Dec.{leb, eqb}
use lib.ListN.{length, take, drop, get_or, drop_of_length-le}
use lib.Seq.{take-nil}
use Rattle.promise.proofs.Lists.{next, tail_whole}
use Rattle.text.specs.declared.Position.{Position}
use Rattle.text.specs.Rows.{Line, lines, row_count, last_row, row_start}
use Rattle.text.specs.Text.{is_lf}
use Rattle.text.proofs.Laws.{lines_cons, lines-lf, lines_other, lines_from, count_last}
use Rattle.edit.specs.declared.MotionKind.TheVariants.{Block}
use Rattle.edit.specs.Edits.{height}
use Rattle.edit.specs.Refusals.{wide}
use Rattle.edit.specs.Call.{range_undoable}

-- the first n of some rows, when c characters of the first are behind
unfoldable pub wide_from : ℕ → ℕ → ℕ → List (Line ℕ) → Bool
wide_from left zero c rs = true
wide_from left (suc n) c [] = true
wide_from left (suc n) c (r ∷ rs) = leb left (c + length r.body) && wide left (take n rs)

pub wide-start : (left n : ℕ) (rs : List (Line ℕ)) → wide_from left n 0 rs ≡ wide left (take n rs)
unfolding wide_from wide
wide-start left zero rs = refl
wide-start left (suc n) [] = refl
wide-start left (suc n) (r ∷ rs) = rw zero-add

-- at index i of a scan
module _ (left c : ℕ) (s : List ℕ) (i : ℕ) where
  pub wide-none : (n : ℕ) → n ≡ 0 → wide_from left n c (lines is_lf (drop i s)) ≡ true
  unfolding wide_from
  wide-none n e = rw e

  pub wide-end : (n : ℕ) → length s ≤ i → (eqb n 0 || leb left c) ≡ wide_from left n c (lines is_lf (drop i s))
  unfolding wide_from wide lines
  wide-end zero h = refl
  wide-end (suc n) h = rw (drop_of_length-le s h, ne_eqb (suc n) 0 (omega arith), add-zero, take-nil, and-true)

  wide-lf : (n : ℕ) → (n ≡ 0 → ⊥) → i < length s → get_or s i 0 ≡ 10
      → wide_from left n c (lines is_lf (drop i s)) ≡ (leb left c && wide_from left (n - 1) 0 (lines is_lf (drop (i + 1) s)))
  unfolding wide_from
  wide-lf zero z h e = absurd (z refl)
  wide-lf (suc n) z h e =
      rw (next s i h, lines-lf is_lf (get_or s i 0) (drop (i + 1) s) (eq-eqb (get_or s i 0) 10 e), add-zero, sub-one, wide-start left n (lines is_lf (drop (i + 1) s)))

  pub wide-lf_short : (n : ℕ) → (n ≡ 0 → ⊥) → i < length s → get_or s i 0 ≡ 10 → c < left → wide_from left n c (lines is_lf (drop i s)) ≡ false
  wide-lf_short n z h e k = wide-lf n z h e ∙ rw (lt-leb left c k)

  pub wide-lf_on : (n : ℕ) → (n ≡ 0 → ⊥) → i < length s → get_or s i 0 ≡ 10 → left ≤ c
      → wide_from left n c (lines is_lf (drop i s)) ≡ wide_from left (n - 1) 0 (lines is_lf (drop (i + 1) s))
  wide-lf_on n z h e k = wide-lf n z h e ∙ rw (le-leb left c k)

  pub wide-other : (n : ℕ) → i < length s → (get_or s i 0 ≡ 10 → ⊥) → wide_from left n c (lines is_lf (drop i s)) ≡ wide_from left n (c + 1) (lines is_lf (drop (i + 1) s))
  unfolding wide_from
  wide-other zero h e = refl
  wide-other (suc n) h e =
      let t : List ℕ = drop (i + 1) s in
      let q : c + suc (length (lines_cons is_lf t).0.body) ≡ (c + 1) + length (lines_cons is_lf t).0.body = omega arith in
      rw (next s i h, lines_other is_lf (get_or s i 0) t (ne_eqb (get_or s i 0) 10 e), (lines_cons is_lf t).2, q)

-- a block delete's test
module _ (t : List ℕ) (p q : Position) where
  pub block_absent : last_row is_lf t < min p.row.0 q.row.0 → true ≡ range_undoable t p q Block
  unfolding range_undoable wide row_count
  block_absent h =
      let l : length (lines is_lf t) ≤ min p.row.0 q.row.0 = omega (arith, count_last is_lf t) in
      rw (drop_of_length-le (lines is_lf t) l)

  pub block_wide : (top left from n : ℕ) (r : Bool) → top ≤ last_row is_lf t → top ≡ min p.row.0 q.row.0 → left ≡ min p.col.0 q.col.0
      → from ≡ row_start is_lf t top → n ≡ height p q → r ≡ wide left (take n (lines is_lf (take (length t - from) (drop from t)))) → r ≡ range_undoable t p q Block
  unfolding range_undoable
  block_wide top left from n r h a b c d e = rw (← d, ← a, ← b, ← lines_from is_lf t top h, ← c, ← tail_whole t from) e
