-- One row of a text with another body, and a shift that moves in rows and leaves all other rows.
use mathlib.Core.Path.{◌≡◌, sym, ◌∙◌, ap, subst}
use mathlib.Core.Bool.{Bool, true, false}
use mathlib.Core.Logic.{⊎_elim}
use mathlib.Core.List.{List, [], ◌∷◌, ◌++◌}
use Prim.Native.Nat.{ℕ, suc, ◌+◌, ◌≤◌}
use native.Mathlib.Omega.{arith}
use borrow.Author.Tests.{eqb-true, eqb-false}
use lib.Dec.{eqb}
use lib.ListN.{length, get_or, length-append}
use lib.Seq.{get_or-append_seam, get_or-set_other, set-append_seam}
use Rattle.promise.proofs.Bools.{known}
use Rattle.text.specs.declared.Position.{Position}
use Rattle.text.specs.Rows.{Line, line, lines, unlines, at, upto, ◌⊕◌, last_row, row_len, end_of}
use Rattle.text.proofs.Laws.{add-origin, add-to_row, rows_last, rows-len}
use Rattle.text.proofs.Order.{past_is}
use Rattle.text.proofs.Adds.{before-end}
use Rattle.text.proofs.Holds.{Holds, holds_none, holds_single, holds_append, holds_left, holds_right, holds_carried}
use Rattle.text.proofs.Spots.{end-in_rows}
use Rattle.text.proofs.Broken.{unlines-append, Unbroken, Broken, final, next, lines-unlines, first_body, broken_right, broken_change, row_next, rows_end}
use Rattle.after.proofs.Columns.{InRows, rows-order}
use Rattle.text.proofs.Near.{Within, near_within, within-near}
use Rattle.letters.proofs.Carries.{Carries}

module _ {A : Type 0} (lf : A → Bool) where
  module _ {Free : A → Type 0} (lfs : (x : A) → lf x ≡ true → Free x) {sh : Position → Position} {col : ℕ → ℕ → ℕ} (g : InRows sh col) where
    -- what stays in its column stays
    still : (p : Position) → col p.row.0 p.col.0 ≡ p.col.0 → sh p ≡ p
    still p e = g.is p.row.0 p.col.0 ∙ ap (at p.row.0) e

    -- no row of the text changes
    pub carries_still : (t : List A) → ((m j : ℕ) → m ≤ last_row lf t → col m j ≡ j) → Carries lf Free sh t t
    carries_still t h = record {
      letters = λ R S carry free.
          holds_carried lf R S sh carry (λ p x e. free p x (lfs x e)) (at 0 0) (at 0 0) t
          (λ s x r i n. rw (add-origin (end_of lf s)) (still (end_of lf s) (h (end_of lf s).row.0 (end_of lf s).col.0 (rw i (end-in_rows lf s (x ∷ r))))));
      marks = λ p m. within-near lf t (sh p) (rw (g.is p.row.0 p.col.0) (λ l. rw (h p.row.0 p.col.0 (omega arith)) (near_within lf t p m l)));
      order = λ p q m u. rows-order sh col g p q u;
    }

    -- ---- row r, with b for its body and then c

    module _ (X : List (Line A)) (b c a : List A) (Y : List (Line A)) (h : Broken lf (X ++ line b a ∷ Y)) (uc : Unbroken lf c)
        (others : (m j : ℕ) → (m ≡ length X → ⊥) → col m j ≡ j) where
      abbrev r : ℕ
      r = length X

      abbrev before : List A
      before = unlines (X ++ line b a ∷ Y)

      abbrev after : List A
      after = unlines (X ++ line c a ∷ Y)

      broken_after : Broken lf (X ++ line c a ∷ Y)
      broken_after = broken_change lf X (line b a) Y (line c a ∷ Y) h (first_body lf c uc (broken_right lf X (line b a) Y h))

      above_still : (s : List A) (x : A) (k : List A) → unlines X ≡ s ++ x ∷ k → sh (end_of lf s) ≡ end_of lf s
      above_still s x k i =
          let n : upto (at r 0) (end_of lf s) ≡ false = subst (λ (p : Position). upto p (end_of lf s) ≡ false) (rows_end lf X (line b a) Y h) (before-end lf x k (unlines X) s i) in
          still (end_of lf s) (others (end_of lf s).row.0 (end_of lf s).col.0 (⊎_elim (λ l q. omega arith) (λ l q. omega arith) (past_is (at r 0) (end_of lf s) n)))

      below_still : (d : Position) → sh (at (suc r) 0 ⊕ d) ≡ at (suc r) 0 ⊕ d
      below_still d = rw (add-to_row (suc r) d.row.0 d.col.0) (still (at (suc r + d.row.0) d.col.0) (others (suc r + d.row.0) d.col.0 (λ e. omega arith)))

      module _ (R S : Position → A → Type 0) (carry : (p : Position) (x : A) → lf x ≡ false → R p x → S (sh p) x) (free : (p : Position) (x : A) → Free x → S p x) where
        anywhere : (p : Position) (x : A) → lf x ≡ true → S p x
        anywhere p x e = free p x (lfs x e)

        -- what ends the row, and those below
        tail_letters : {a : List A} {Y : List (Line A)} → Broken lf (line b a ∷ Y) → Holds lf R (at r 0 ⊕ end_of lf b) (a ++ unlines Y) → Holds lf S (at r 0 ⊕ end_of lf c) (a ++ unlines Y)
        unfolding unlines
        tail_letters (final d p) k = holds_none lf S (at r 0 ⊕ end_of lf c)
        tail_letters {Y = Y} (next d x p q m) k =
            holds_append lf S (at r 0 ⊕ end_of lf c) (x ∷ []) (unlines Y) (holds_single lf S (at r 0 ⊕ end_of lf c) x (anywhere (at r 0 ⊕ end_of lf c) x q))
            (rw (row_next lf r 0 c x uc q)
            (holds_carried lf R S sh carry anywhere (at (suc r) 0) (at (suc r) 0) (unlines Y) (λ s y z i n. below_still (end_of lf s))
            (rw (row_next lf r 0 d x p q) at (holds_right lf R (at r 0 ⊕ end_of lf d) (x ∷ []) (unlines Y) k))))

        row_letters : (Holds lf R (at r 0) b → Holds lf S (at r 0) c) → Holds lf R (at 0 0) before → Holds lf S (at 0 0) after
        unfolding unlines
        row_letters body k =
            let U : List A = unlines X in
            let W : List A = a ++ unlines Y in
            let o : at 0 0 ⊕ end_of lf U ≡ at r 0 = add-origin (end_of lf U) ∙ rows_end lf X (line b a) Y h in
            let w : Holds lf R (at 0 0) (U ++ (b ++ W)) = subst (Holds lf R (at 0 0)) (unlines-append X (line b a ∷ Y)) k in
            let m : Holds lf R (at r 0) (b ++ W) = subst (λ (p : Position). Holds lf R p (b ++ W)) o (holds_right lf R (at 0 0) U (b ++ W) w) in
            subst (Holds lf S (at 0 0)) (sym (unlines-append X (line c a ∷ Y)))
            (holds_append lf S (at 0 0) U (c ++ W)
            (holds_carried lf R S sh carry anywhere (at 0 0) (at 0 0) U (λ s x z i n. rw (add-origin (end_of lf s)) (above_still s x z i)) (holds_left lf R (at 0 0) U (b ++ W) w))
            (subst (λ (p : Position). Holds lf S p (c ++ W)) (sym o)
            (holds_append lf S (at r 0) c W (body (holds_left lf R (at r 0) b W m)) (tail_letters (broken_right lf X (line b a) Y h) (holds_right lf R (at r 0) b W m)))))

      row_marks : ((j : ℕ) → j ≤ length b → col r j ≤ length c) → (p : Position) → Within lf before p → Within lf after (sh p)
      row_marks within p w = rw (g.is p.row.0 p.col.0) (λ l. ⊎_elim (λ e. here (eqb-true p.row.0 r e) (w (omega (arith, same_last)))) (λ e. beside (eqb-false p.row.0 r e) (w (omega (arith, same_last)))) (known (eqb p.row.0 r)))
        where
          was : lines lf before ≡ X ++ line b a ∷ Y
          was = lines-unlines lf h

          is : lines lf after ≡ X ++ line c a ∷ Y
          is = lines-unlines lf broken_after

          same_last : last_row lf before ≡ last_row lf after
          same_last = omega (arith, rows_last lf before (X ++ line b a ∷ Y) was, rows_last lf after (X ++ line c a ∷ Y) is, length-append X (line b a ∷ Y), length-append X (line c a ∷ Y))

          here : p.row.0 ≡ r → p.col.0 ≤ row_len lf before p.row.0 → col p.row.0 p.col.0 ≤ row_len lf after p.row.0
          here e k =
              let x : row_len lf before r ≡ length b = rows-len lf before (X ++ line b a ∷ Y) was r ∙ ap (λ (l : Line A). length l.body) (get_or-append_seam X (line b a) Y (line [] [])) in
              let y : row_len lf after r ≡ length c = rows-len lf after (X ++ line c a ∷ Y) is r ∙ ap (λ (l : Line A). length l.body) (get_or-append_seam X (line c a) Y (line [] [])) in
              let j : p.col.0 ≤ length b = rw (e, x) at k in
              rw (e, y) (within p.col.0 j)

          beside : (p.row.0 ≡ r → ⊥) → p.col.0 ≤ row_len lf before p.row.0 → col p.row.0 p.col.0 ≤ row_len lf after p.row.0
          beside e k =
              let m : ℕ = p.row.0 in
              let x : row_len lf before m ≡ row_len lf after m =
              rows-len lf before (X ++ line b a ∷ Y) was m ∙ ap (λ (l : Line A). length l.body) (sym (get_or-set_other (X ++ line b a ∷ Y) r m (line c a) (line [] []) e) ∙ ap (λ (l : List (Line A)). get_or l m (line [] [])) (set-append_seam X (line b a) Y (line c a))) ∙ sym (rows-len lf after (X ++ line c a ∷ Y) is m) in
              rw (others m p.col.0 e, ← x) k

      pub carries_row : ((R S : Position → A → Type 0) → ((p : Position) (x : A) → lf x ≡ false → R p x → S (sh p) x) → ((p : Position) (x : A) → Free x → S p x) → Holds lf R (at r 0) b → Holds lf S (at r 0) c)
          → ((j : ℕ) → j ≤ length b → col r j ≤ length c) → Carries lf Free sh before after
      carries_row body within = record {
        letters = λ R S carry free. row_letters R S carry free (body R S carry free);
        marks = λ p m. within-near lf after (sh p) (row_marks within p (near_within lf before p m));
        order = λ p q m u. rows-order sh col g p q u;
      }
