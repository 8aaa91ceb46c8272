-- More laws of places: bounds, order, and the parts of a cut.
use mathlib.Core.Path.{◌≡◌, refl, sym, ◌∙◌, ap}
use mathlib.Core.Bool.{Bool, true, false}
use mathlib.Core.List.{List, [], ◌∷◌, ◌++◌, append_assoc}
use Prim.Native.Nat.{ℕ, zero, suc, ◌+◌, ◌≤◌, ◌<◌, min}
use native.Mathlib.Decide.{dec_le}
use native.Mathlib.Omega.{arith}
use borrow.Author.Tests.{eq-eqb, ne_eqb}
use lib.ListN.{length, take, drop, length-append, take-append-drop}
use lib.Seq.{slice, take-take}
use Rattle.text.specs.declared.Position.{Position}
use Rattle.text.specs.declared.Place.{Place}
use Rattle.text.specs.Text.{is_lf}
use Rattle.text.specs.Rows.{Line, lines, unlines, at, upto, ◌⊕◌, last_row, row_len, row_start, clamp, offset, place, end_of}
use Rattle.text.proofs.Adds.{behind}
use Rattle.text.proofs.Order.{row_le, upto-both}
use Rattle.text.proofs.Laws.{start-lf, start-other, start_first, start_none, len_lf, len_lf_next, len_other, len_other_next, len_none, len_le, last_none, last_lf, last_other, last_le, end-append, end_take}

pub front-slice : {A : Type 0} (a b : ℕ) (t : List A) → a ≤ b → take a t ++ slice a b t ≡ take b t
front-slice {A} a b t h = ap (λ (l : List A). l ++ slice a b t) (sym (take-take a b t h)) ∙ take-append-drop a (take b t)

pub cut_parts : {A : Type 0} (a b : ℕ) (t : List A) → a ≤ b → take a t ++ (slice a b t ++ drop b t) ≡ t
cut_parts {A} a b t h = sym (append_assoc (take a t) (slice a b t) (drop b t)) ∙ ap (λ (l : List A). l ++ drop b t) (front-slice a b t h) ∙ take-append-drop b t

module _ {A : Type 0} (lf : A → Bool) where
  -- a row ends in the text
  pub row_within : (t : List A) (r : ℕ) → row_start lf t r + row_len lf t r ≤ length t
  row_within t zero = rw (start_first lf t) (omega (arith, len_le lf t 0))
  row_within [] (suc r) = rw (start_none lf, len_none lf (suc r)) (omega arith)
  row_within (x ∷ t) (suc r) = go (lf x) refl (row_within t r) (row_within t (suc r))
    where
      go : (b : Bool) → lf x ≡ b → row_start lf t r + row_len lf t r ≤ length t → row_start lf t (suc r) + row_len lf t (suc r) ≤ length t
          → row_start lf (x ∷ t) (suc r) + row_len lf (x ∷ t) (suc r) ≤ suc (length t)
      go true e h k = rw (start-lf lf x t r e, len_lf_next lf x t r e) (omega arith)
      go false e h k = rw (start-other lf x t r e, len_other_next lf x t r e) (omega arith)

  pub offset-le : (t : List A) (p : Position) → offset lf t p ≤ length t
  unfolding offset clamp
  offset-le t p = let r : ℕ = min p.row.0 (last_row lf t) in omega (arith, row_within t r)

  -- a clamped position is no further than the text is long
  pub place-within : (t : List A) (p : Position) (f : Place) → f ≡ place lf t p → (f.pos.row.0 ≤ length t) × (f.pos.col.0 ≤ length t) × (f.at.0 ≤ length t)
  unfolding clamp
  place-within t p f e =
      let r : ℕ = min p.row.0 (last_row lf t) in
      rw e (omega (arith, last_le lf t), omega (arith, len_le lf t r), offset-le t p)

  pub clamp-place : (t : List A) (r c : ℕ) → r ≤ last_row lf t → c ≤ row_len lf t r → clamp lf t (at r c) ≡ at r c
  unfolding clamp
  clamp-place t r c h k =
      let m : min r (last_row lf t) ≡ r = omega arith in
      let n : min c (row_len lf t r) ≡ c = omega arith in
      rw (m, n)

  pub clamp-within : (t : List A) (p : Position) → clamp lf t p ≡ p → (p.row.0 ≤ last_row lf t) × (p.col.0 ≤ row_len lf t p.row.0)
  unfolding clamp
  clamp-within t p e =
      let a : min p.row.0 (last_row lf t) ≡ p.row.0 = ap (λ (x : Position). x.row.0) e in
      let b : min p.col.0 (row_len lf t (min p.row.0 (last_row lf t))) ≡ p.col.0 = ap (λ (x : Position). x.col.0) e in
      (omega arith, let c : min p.col.0 (row_len lf t p.row.0) ≡ p.col.0 = rw a at b in omega arith)

  pub offset-place : (t : List A) (r c : ℕ) → r ≤ last_row lf t → c ≤ row_len lf t r → offset lf t (at r c) ≡ row_start lf t r + c
  unfolding offset
  offset-place t r c h k = rw (clamp-place t r c h k)

  -- in a row of the text, the column clamped
  pub offset-row : (t : List A) (r c : ℕ) → r ≤ last_row lf t → offset lf t (at r c) ≡ row_start lf t r + min c (row_len lf t r)
  unfolding offset clamp
  offset-row t r c h = let m : min r (last_row lf t) ≡ r = omega arith in rw m

  pub end_row : (t : List A) → (end_of lf t).row.0 ≤ length t
  unfolding end_of
  end_row t = last_le lf t

  pub end-col : (t : List A) → (end_of lf t).col.0 ≤ length t
  unfolding end_of
  end-col t = len_le lf t (last_row lf t)

  -- a text of one row is as long as the row
  pub one-row : (t : List A) → last_row lf t ≡ 0 → row_len lf t 0 ≡ length t
  one-row [] e = len_none lf 0
  one-row (x ∷ t) e = go (lf x) refl (one-row t)
    where
      go : (b : Bool) → lf x ≡ b → (last_row lf t ≡ 0 → row_len lf t 0 ≡ length t) → row_len lf (x ∷ t) 0 ≡ suc (length t)
      go true q ih = absurd (omega (arith, last_lf lf x t q))
      go false q ih = len_other lf x t q ∙ ap suc (ih (sym (last_other lf x t q) ∙ e))

  unlines-mono : (ls : List (Line A)) (r s : ℕ) → r ≤ s → length (unlines (take r ls)) ≤ length (unlines (take s ls))
  unfolding unlines
  unlines-mono ls zero s h = omega arith
  unlines-mono ls (suc r) zero h = absurd (omega arith)
  unlines-mono [] (suc r) (suc s) h = omega arith
  unlines-mono (l ∷ ls) (suc r) (suc s) h =
      let k = unlines-mono ls r s (omega arith) in
      simp length-append (omega arith)

  pub start-mono : (t : List A) (r s : ℕ) → r ≤ s → row_start lf t r ≤ row_start lf t s
  unfolding row_start
  start-mono t r s h = unlines-mono (lines lf t) r s h

  -- a text ends no later than a longer one
  pub end-upto : (s u : List A) → upto (end_of lf s) (end_of lf (s ++ u)) ≡ true
  end-upto s u = rw (end-append lf s u) (behind (end_of lf s) (end_of lf u))

  pub end-in_rows : (s u : List A) → (end_of lf s).row.0 ≤ last_row lf (s ++ u)
  unfolding end_of
  end-in_rows s u = row_le (end_of lf s) (end_of lf (s ++ u)) (end-upto s u)

  -- positions of the text are in the order of their offsets
  pub offset-order : (t : List A) (a b : Position) → clamp lf t a ≡ a → clamp lf t b ≡ b → offset lf t a ≤ offset lf t b → upto a b ≡ true
  offset-order t a b ka kb h =
      let x : ℕ = offset lf t a in
      let y : ℕ = offset lf t b in
      let e : take x t ++ slice x y t ≡ take y t = front-slice x y t h in
      let p : end_of lf (take x t) ≡ a = end_take lf t a ∙ ka in
      let q : end_of lf (take x t ++ drop x (take y t)) ≡ b = ap (end_of lf) e ∙ end_take lf t b ∙ kb in
      rw (p, q) at (end-upto (take x t) (drop x (take y t)))

  -- and back
  pub offset-mono : (t : List A) (a b : Position) → clamp lf t a ≡ a → clamp lf t b ≡ b → upto a b ≡ true → offset lf t a ≤ offset lf t b
  offset-mono t a b ka kb u = elim (dec_le (offset lf t a) (offset lf t b)) [
    | yes h ↦ h
    | no h ↦ (let e : a ≡ b = upto-both a b u (offset-order t b a kb ka (omega arith)) in rw e (omega arith))
  ]

  -- a row that is not the last ends before the next one starts
  pub row_ends : (t : List A) (r : ℕ) → r < last_row lf t → row_start lf t r + row_len lf t r < row_start lf t (suc r)
  row_ends [] r h = absurd (omega (arith, last_none lf))
  row_ends (x ∷ t) r h = go (lf x) refl r h (λ r. row_ends t r)
    where
      go : (b : Bool) → lf x ≡ b → (r : ℕ) → r < last_row lf (x ∷ t) → ((r : ℕ) → r < last_row lf t → row_start lf t r + row_len lf t r < row_start lf t (suc r))
          → row_start lf (x ∷ t) r + row_len lf (x ∷ t) r < row_start lf (x ∷ t) (suc r)
      go true e zero h k = rw (start_first lf (x ∷ t), len_lf lf x t e, start-lf lf x t 0 e) (omega arith)
      go true e (suc r) h k = rw (start-lf lf x t r e, start-lf lf x t (suc r) e, len_lf_next lf x t r e) (omega (arith, k r (omega (arith, last_lf lf x t e))))
      go false e zero h k = rw (start_first lf (x ∷ t), len_other lf x t e, start-other lf x t 0 e) (omega (arith, k 0 (omega (arith, last_other lf x t e)), start_first lf t))
      go false e (suc r) h k = rw (start-other lf x t r e, start-other lf x t (suc r) e, len_other_next lf x t r e) (omega (arith, k (suc r) (omega (arith, last_other lf x t e))))

-- the end of a text that stands at p, from the text's last row
module _ (t : List ℕ) (p : Position) (l n : ℕ) (e : l ≡ last_row is_lf t) (f : n ≡ row_len is_lf t l) where
  pub end-in_row : l ≡ 0 → at p.row.0 (p.col.0 + n) ≡ p ⊕ end_of is_lf t
  unfolding ◌⊕◌ end_of
  end-in_row z = rw (← e, ← f, eq-eqb l 0 z)

  pub end_below : (l ≡ 0 → ⊥) → at (p.row.0 + l) n ≡ p ⊕ end_of is_lf t
  unfolding ◌⊕◌ end_of
  end_below z = rw (← e, ← f, ne_eqb l 0 z)
