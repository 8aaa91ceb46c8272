-- Places in a text, or not before its end: as fronts, and in numbers.
use mathlib.Core.Path.{◌≡◌, refl, subst}
use mathlib.Core.Bool.{Bool, true}
use mathlib.Core.Logic.{◌⊎◌, inl, inr, ⊎_elim}
use mathlib.Core.List.{List, ◌++◌}
use Prim.Native.Nat.{◌≤◌, ◌<◌}
use native.Mathlib.Decide.{dec_le}
use native.Mathlib.Omega.{arith}
use Rattle.text.specs.declared.Position.{Position}
use Rattle.text.specs.Rows.{at, upto, last_row, row_len, clamp, end_of}
use Rattle.text.proofs.Laws.{clamp-end}
use Rattle.text.proofs.Order.{upto_is, is_upto}
use Rattle.text.proofs.Spots.{clamp-place, clamp-within}

module _ {A : Type 0} (lf : A → Bool) where
  -- in the text, or not before its end
  abbrev pub Near : List A → Position → Type 0
  Near t p = (clamp lf t p ≡ p) ⊎ (upto (end_of lf t) p ≡ true)

  pub near_front : (s r : List A) → Near (s ++ r) (end_of lf s)
  near_front s r = inl (clamp-end lf s r)

  pub near_at : (s r : List A) (p : Position) → end_of lf s ≡ p → Near (s ++ r) p
  near_at s r p e = subst (Near (s ++ r)) e (near_front s r)

  -- in numbers: before the last row it is in its row
  abbrev pub Within : List A → Position → Type 0
  Within t p = p.row.0 < last_row lf t → p.col.0 ≤ row_len lf t p.row.0

  end_is : (t : List A) → end_of lf t ≡ at (last_row lf t) (row_len lf t (last_row lf t))
  unfolding end_of
  end_is t = refl

  pub near_within : (t : List A) (p : Position) → Near t p → Within t p
  near_within t p h l =
      ⊎_elim (λ k. (clamp-within lf t p k).1) (λ k. absurd (⊎_elim (λ z. omega arith) (λ z. omega arith) (upto_is (at (last_row lf t) (row_len lf t (last_row lf t))) p (rw (end_is t) at k)))) h

  pub within-near : (t : List A) (p : Position) → Within t p → Near t p
  within-near t p h = elim (dec_le (last_row lf t) p.row.0) [
    | yes l ↦ elim (dec_le p.row.0 (last_row lf t)) [
      | yes m ↦ last (omega arith)
      | no m ↦ inr (rw (end_is t) (is_upto (at (last_row lf t) (row_len lf t (last_row lf t))) p (inl (omega arith))))
    ]
    | no l ↦ inl (clamp-place lf t p.row.0 p.col.0 (omega arith) (h (omega arith)))
  ]
    where
      last : last_row lf t ≡ p.row.0 → Near t p
      last e = elim (dec_le p.col.0 (row_len lf t p.row.0)) [
        | yes c ↦ inl (clamp-place lf t p.row.0 p.col.0 (omega arith) c)
        | no c ↦ inr (rw (end_is t, e) (is_upto (at p.row.0 (row_len lf t p.row.0)) p (inr (refl, omega arith))))
      ]
