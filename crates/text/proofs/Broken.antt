-- Rows as a text has them, over any element: no LF in a body, an LF behind each row but the last.
use mathlib.Core.Path.{◌≡◌, refl, ◌∙◌, ap, subst}
use mathlib.Core.Bool.{Bool, true, false, cond, not}
use mathlib.Core.List.{List, [], ◌∷◌, ◌++◌, append-nil, append_assoc}
use Prim.Native.Nat.{ℕ, suc, ◌+◌, ◌≤◌, ◌<◌}
use native.Mathlib.Omega.{arith}
use lib.Dec.{T}
use lib.ListN.{length, get_or, length-append}
use Rattle.promise.proofs.Bools.{T-left, T-right, T_not}
use Rattle.text.specs.Rows.{Line, line, onto, lines, unlines, row_len, at, ◌⊕◌, end_of}
use Rattle.text.specs.Text.{all}
use Rattle.text.proofs.Alls.{all_left}
use Rattle.text.proofs.Laws.{lines-lf, end-append, end_none, end-lf, end-other, add_same, add-next, add-to_row}

module _ {A : Type 0} where
  pub unlines-append : (X Y : List (Line A)) → unlines (X ++ Y) ≡ unlines X ++ unlines Y
  unfolding unlines
  unlines-append [] Y = refl
  unlines-append (r ∷ X) Y = rw (unlines-append X Y, append_assoc r.body (r.after ++ unlines X) (unlines Y), append_assoc r.after (unlines X) (unlines Y))

  -- a row is no longer than its text
  pub body_within : (X : List (Line A)) (z : Line A) (Y : List (Line A)) → length z.body ≤ length (unlines (X ++ z ∷ Y))
  unfolding unlines
  body_within X z Y = rw (unlines-append X (z ∷ Y)) (omega (arith, length-append (unlines X) (z.body ++ (z.after ++ unlines Y)), length-append z.body (z.after ++ unlines Y)))

module _ {A : Type 0} (lf : A → Bool) where
  -- no LF in it
  abbrev pub Unbroken : List A → Type 0
  Unbroken b = T (all (λ c. not (lf c)) b)

  pub data Broken : List (Line A) → Type 0 where
    final : (b : List A) → Unbroken b → Broken (line b [] ∷ [])
    next : (b : List A) (x : A) {rs : List (Line A)} → Unbroken b → lf x ≡ true → Broken rs → Broken (line b (x ∷ []) ∷ rs)

  pub lines-broken : (t : List A) → Broken (lines lf t)
  unfolding lines onto all
  lines-broken [] = final [] tt
  lines-broken (x ∷ t) = go (lf x) refl (lines lf t) (lines-broken t)
    where
      go : (b : Bool) → lf x ≡ b → (l : List (Line A)) → Broken l → Broken (cond b (line [] (x ∷ []) ∷ l) (onto x l))
      go true e l h = next [] x tt e h
      go false e [] h = elim h [ ]
      go false e (r ∷ []) (final b p) = final (x ∷ b) (rw e p)
      go false e (r ∷ rs) (next b y p q h) = next (x ∷ b) y (rw e p) q h

  first_other : (x : A) (b : List A) → Unbroken (x ∷ b) → lf x ≡ false
  unfolding all
  first_other x b p = T_not (lf x) (T-left (not (lf x)) (all (λ c. not (lf c)) b) p)

  others : (x : A) (b : List A) → Unbroken (x ∷ b) → Unbroken b
  unfolding all
  others x b p = T-right (not (lf x)) (all (λ c. not (lf c)) b) p

  -- elements that are no LF go before the first row
  pub front-row : (b s : List A) (r : Line A) (rs : List (Line A)) → Unbroken b → lines lf s ≡ r ∷ rs → lines lf (b ++ s) ≡ line (b ++ r.body) r.after ∷ rs
  unfolding lines onto
  front-row [] s r rs p e = e
  front-row (x ∷ b) s r rs p e = rw (front-row b s r rs (others x b p) e, first_other x b p)

  -- such rows are the rows of their text
  pub lines-unlines : {rs : List (Line A)} → Broken rs → lines lf (unlines rs) ≡ rs
  unfolding lines unlines
  lines-unlines (final b p) = front-row b [] (line [] []) [] p refl ∙ rw append-nil
  lines-unlines (next b x {rs} p q h) =
      front-row b (x ∷ unlines rs) (line [] (x ∷ [])) rs p (lines-lf lf x (unlines rs) q ∙ ap (◌∷◌ (line [] (x ∷ []))) (lines-unlines h)) ∙ rw append-nil

  -- ---- the first of such rows

  pub first_unbroken : {r : Line A} {rs : List (Line A)} → Broken (r ∷ rs) → Unbroken r.body
  first_unbroken (final b p) = p
  first_unbroken (next b x p q h) = p

  -- with another body
  pub first_body : {r : Line A} {rs : List (Line A)} (b : List A) → Unbroken b → Broken (r ∷ rs) → Broken (line b r.after ∷ rs)
  first_body b p (final c q) = final b p
  first_body b p (next c x q e h) = next b x p e h

  pub first_len : {r : Line A} {rs : List (Line A)} → Broken (r ∷ rs) → row_len lf (unlines (r ∷ rs)) 0 ≡ length r.body
  unfolding row_len
  first_len h = rw (lines-unlines h)

  -- ---- rows with rows below

  broken_below : {r : Line A} {rs : List (Line A)} → Broken (r ∷ rs) → 0 < length rs → Broken rs × ((new : List (Line A)) → Broken new → Broken (r ∷ new))
  broken_below (final b p) l = absurd (omega arith)
  broken_below (next b x p q h) l = (h, λ new k. next b x p q k)

  pub broken_right : (X : List (Line A)) (x : Line A) (Y : List (Line A)) → Broken (X ++ x ∷ Y) → Broken (x ∷ Y)
  broken_right [] x Y h = h
  broken_right (r ∷ X) x Y h = broken_right X x Y (broken_below h (omega (arith, length-append X (x ∷ Y)))).0

  pub broken_change : (X : List (Line A)) (x : Line A) (Y new : List (Line A)) → Broken (X ++ x ∷ Y) → Broken new → Broken (X ++ new)
  broken_change [] x Y new h k = k
  broken_change (r ∷ X) x Y new h k =
      let b = broken_below h (omega (arith, length-append X (x ∷ Y))) in
      b.1 (X ++ new) (broken_change X x Y new b.0 k)

  pub broken_last : {x : Line A} {B : List (Line A)} → Broken (x ∷ B) → (get_or (x ∷ B) (length B) (line [] [])).after ≡ []
  broken_last (final b p) = refl
  broken_last (next b x p e (final c q)) = refl
  broken_last (next b x p e (next c y q f h)) = broken_last (next c y q f h)

  -- ---- where their elements stand

  end-unbroken : (b : List A) → Unbroken b → end_of lf b ≡ at 0 (length b)
  end-unbroken [] p = end_none lf
  end-unbroken (x ∷ b) p = let e : 1 + length b ≡ suc (length b) = omega arith in end-other lf x b (first_other x b p) ∙ rw (end-unbroken b (others x b p), add_same 0 1 (length b), e)

  -- a part of a row ends in its column
  pub row_end_lem : (r c : ℕ) (b : List A) → Unbroken b → at r c ⊕ end_of lf b ≡ at r (c + length b)
  row_end_lem r c b p = rw (end-unbroken b p) (add_same r c (length b))

  -- an element of such a part
  pub in_row : (r c : ℕ) (b s : List A) (x : A) (u : List A) → Unbroken b → b ≡ s ++ x ∷ u → at r c ⊕ end_of lf s ≡ at r (c + length s)
  in_row r c b s x u p e = row_end_lem r c s (all_left (λ y. not (lf y)) s (x ∷ u) (subst Unbroken e p))

  -- behind its LF, the next row
  pub row_next : (r c : ℕ) (b : List A) (x : A) → Unbroken b → lf x ≡ true → at r c ⊕ end_of lf b ⊕ end_of lf (x ∷ []) ≡ at (suc r) 0
  row_next r c b x p q =
      rw (row_end_lem r c b p, end-lf lf x [] q, end_none lf, add_same 1 0 0, add-next r (c + length b) 1 0 (omega arith)) (ap (λ (n : ℕ). at n 0) (omega arith))

  above : {r : Line A} {rs : List (Line A)} → Broken (r ∷ rs) → 0 < length rs → (u : List A) (n : ℕ) → end_of lf u ≡ at n 0 → end_of lf (r.body ++ (r.after ++ u)) ≡ at (suc n) 0
  above (final b p) l u n e = absurd (omega arith)
  above (next b x p q h) l u n e =
      rw (end-append lf b (x ∷ u), end-lf lf x u q, end-unbroken b p, e, add-to_row 1 n 0, add-next 0 (length b) (1 + n) 0 (omega arith)) (ap (λ (m : ℕ). at m 0) (omega arith))

  -- rows that another follows
  pub rows_end : (X : List (Line A)) (x : Line A) (Y : List (Line A)) → Broken (X ++ x ∷ Y) → end_of lf (unlines X) ≡ at (length X) 0
  unfolding unlines
  rows_end [] x Y h = end_none lf
  rows_end (r ∷ X) x Y h =
      let l : 0 < length (X ++ x ∷ Y) = omega (arith, length-append X (x ∷ Y)) in
      above h l (unlines X) (length X) (rows_end X x Y (broken_below h l).0)
