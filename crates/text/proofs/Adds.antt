-- Positions that are added, in their order: p ⊕ d stands d behind p.
use mathlib.Core.Path.{◌≡◌, refl, sym, ◌∙◌, ap, ap₂}
use mathlib.Core.Bool.{Bool, true, false}
use mathlib.Core.Logic.{◌⊎◌, inl, inr, ⊎_elim}
use mathlib.Core.List.{List, ◌∷◌, ◌++◌}
use Prim.Native.Nat.{ℕ, zero, suc, ◌+◌, ◌-◌, ◌<◌}
use native.Mathlib.Omega.{arith}
use Rattle.promise.proofs.Bools.{unless}
use Rattle.text.specs.declared.Position.{Position}
use Rattle.text.specs.Rows.{at, upto, ◌⊕◌, end_of}
use Rattle.text.proofs.Laws.{add_same, add-next, add-to_row, end-lf, end-other, end-append}
use Rattle.text.proofs.Order.{upto_is, is_upto}

upto-added : (a b r c : ℕ) → upto (at a b) (at a b ⊕ at r c) ≡ true
upto-added a b zero c = rw (add_same a b c) (is_upto (at a b) (at a (b + c)) (inr (refl, omega arith)))
upto-added a b (suc r) c = rw (add-next a b (suc r) c (omega arith)) (is_upto (at a b) (at (a + suc r) c) (inl (omega arith)))

pub behind : (p d : Position) → upto p (p ⊕ d) ≡ true
behind p d = upto-added p.row.0 p.col.0 d.row.0 d.col.0

-- ---- further on by something

abbrev Some : Position → Type 0
Some d = (0 < d.row.0) ⊎ (0 < d.col.0)

past-added : (a b r c : ℕ) → Some (at r c) → upto (at a b ⊕ at r c) (at a b) ≡ false
past-added a b zero c h =
    rw (add_same a b c)
    (unless (upto (at a (b + c)) (at a b)) (λ e. ⊎_elim (λ l. omega arith) (λ l. ⊎_elim (λ k. omega arith) (λ k. omega arith) h) (upto_is (at a (b + c)) (at a b) e)))
past-added a b (suc r) c h =
    rw (add-next a b (suc r) c (omega arith)) (unless (upto (at (a + suc r) c) (at a b)) (λ e. ⊎_elim (λ l. omega arith) (λ l. omega arith) (upto_is (at (a + suc r) c) (at a b) e)))

module _ {A : Type 0} (lf : A → Bool) (x : A) (t : List A) where
  some_end : Some (end_of lf (x ∷ t))
  some_end = go (lf x) refl
    where
      other : (r c : ℕ) → Some (at 0 1 ⊕ at r c)
      other zero c = rw (add_same 0 1 c) (inr (omega arith))
      other (suc r) c = rw (add-next 0 1 (suc r) c (omega arith)) (inl (omega arith))

      go : (b : Bool) → lf x ≡ b → Some (end_of lf (x ∷ t))
      go true e = rw (end-lf lf x t e, add-to_row 1 (end_of lf t).row.0 (end_of lf t).col.0) (inl (omega arith))
      go false e = rw (end-other lf x t e) (other (end_of lf t).row.0 (end_of lf t).col.0)

  -- a text that is not empty ends past where it begins
  pub past_end : (p : Position) → upto (p ⊕ end_of lf (x ∷ t)) p ≡ false
  past_end p = past-added p.row.0 p.col.0 (end_of lf (x ∷ t)).row.0 (end_of lf (x ∷ t)).col.0 some_end

  -- and an element stands before its text ends
  pub before-end : (u s : List A) → u ≡ s ++ x ∷ t → upto (end_of lf u) (end_of lf s) ≡ false
  before-end u s e = rw (e, end-append lf s (x ∷ t)) (past_end (end_of lf s))

-- ---- what stands behind a place stands so far behind it

pub record Apart (a p : Position) : Type 0 where
  pub by : Position
  pub is : p ≡ a ⊕ by

pub apart : (a p : Position) → upto a p ≡ true → Apart a p
apart a p h =
    ⊎_elim
    (λ l. record {
      by = at (p.row.0 - a.row.0) p.col.0;
      is = sym (add-next a.row.0 a.col.0 (p.row.0 - a.row.0) p.col.0 (omega arith) ∙ ap (λ (r : ℕ). at r p.col.0) (omega arith));
    })
    (λ e. record { by = at 0 (p.col.0 - a.col.0); is = sym (add_same a.row.0 a.col.0 (p.col.0 - a.col.0) ∙ ap₂ at e.0 (omega arith)) })
    (upto_is a p h)

order_added : (a b r c s d : ℕ) → upto (at r c) (at s d) ≡ true → upto (at a b ⊕ at r c) (at a b ⊕ at s d) ≡ true
order_added a b zero c zero d h =
    rw (add_same a b c, add_same a b d) (is_upto (at a (b + c)) (at a (b + d)) (inr (refl, ⊎_elim (λ l. absurd (omega arith)) (λ l. omega arith) (upto_is (at 0 c) (at 0 d) h))))
order_added a b zero c (suc s) d h = rw (add_same a b c, add-next a b (suc s) d (omega arith)) (is_upto (at a (b + c)) (at (a + suc s) d) (inl (omega arith)))
order_added a b (suc r) c zero d h = absurd (⊎_elim (λ l. omega arith) (λ l. omega arith) (upto_is (at (suc r) c) (at 0 d) h))
order_added a b (suc r) c (suc s) d h =
    rw (add-next a b (suc r) c (omega arith), add-next a b (suc s) d (omega arith))
    (is_upto (at (a + suc r) c) (at (a + suc s) d) (⊎_elim (λ l. inl (omega arith)) (λ l. inr (omega arith, l.1)) (upto_is (at (suc r) c) (at (suc s) d) h)))

order_shown : (a b r c s d : ℕ) → upto (at a b ⊕ at r c) (at a b ⊕ at s d) ≡ true → upto (at r c) (at s d) ≡ true
order_shown a b zero c zero d h =
    let k : upto (at a (b + c)) (at a (b + d)) ≡ true = rw (add_same a b c, add_same a b d) at h in
    is_upto (at 0 c) (at 0 d) (inr (refl, ⊎_elim (λ l. absurd (omega arith)) (λ l. omega arith) (upto_is (at a (b + c)) (at a (b + d)) k)))
order_shown a b zero c (suc s) d h = is_upto (at 0 c) (at (suc s) d) (inl (omega arith))
order_shown a b (suc r) c zero d h =
    let k : upto (at (a + suc r) c) (at a (b + d)) ≡ true = rw (add-next a b (suc r) c (omega arith), add_same a b d) at h in
    absurd (⊎_elim (λ l. omega arith) (λ l. omega arith) (upto_is (at (a + suc r) c) (at a (b + d)) k))
order_shown a b (suc r) c (suc s) d h =
    let k : upto (at (a + suc r) c) (at (a + suc s) d) ≡ true = rw (add-next a b (suc r) c (omega arith), add-next a b (suc s) d (omega arith)) at h in
    is_upto (at (suc r) c) (at (suc s) d) (⊎_elim (λ l. inl (omega arith)) (λ l. inr (omega arith, l.1)) (upto_is (at (a + suc r) c) (at (a + suc s) d) k))

-- what is added keeps the order, from wherever it is counted
pub order_moved : (a b d e : Position) → upto (a ⊕ d) (a ⊕ e) ≡ true → upto (b ⊕ d) (b ⊕ e) ≡ true
order_moved a b d e h =
    order_added b.row.0 b.col.0 d.row.0 d.col.0 e.row.0 e.col.0
    (order_shown a.row.0 a.col.0 d.row.0 d.col.0 e.row.0 e.col.0 h)
