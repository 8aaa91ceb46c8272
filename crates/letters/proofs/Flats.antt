-- Insertions, cuts, rows that go and replaces, as splices of the text that their shifts go with.
use mathlib.Core.Path.{◌≡◌, refl, sym, ◌∙◌, ap, subst}
use mathlib.Core.Bool.{Bool, true, false, cond}
use mathlib.Core.Logic.{inl, inr, ⊎_elim}
use mathlib.Core.List.{List, [], ◌∷◌, ◌++◌, append_assoc, append-nil}
use Prim.Native.Nat.{ℕ, zero, suc, ◌-◌, ◌≤◌, ◌<◌, min, max}
use native.Mathlib.Nat.{add-zero}
use native.Mathlib.Decide.{dec_le}
use native.Mathlib.Omega.{arith}
use borrow.Author.Tests.{ltb-true}
use lib.Dec.{ltb}
use lib.ListN.{length, take, drop, take-append-drop}
use lib.Seq.{slice, take-append_seam, drop-append_seam, drop-length}
use Rattle.promise.proofs.Bools.{known}
use Rattle.promise.proofs.Lists.{none_in}
use Rattle.text.specs.declared.Position.{Position}
use Rattle.text.specs.Rows.{at, upto, earlier, ◌⊕◌, last_row, row_len, row_start, clamp, offset, end_of, spliced}
use Rattle.text.specs.Text.{is_lf}
use Rattle.text.proofs.Laws.{end-append, end_take, offset-end}
use Rattle.text.proofs.Order.{past_is, is_upto, row_le, upto-trans, upto-total, upto-both, earlier-first, later_second}
use Rattle.text.proofs.Adds.{behind, past_end, before-end}
use Rattle.text.proofs.Holds.{end-first, end-both}
use Rattle.text.proofs.Spots.{clamp-place, offset-place, offset-mono, end-upto, start-mono, front-slice, cut_parts}
use Rattle.edit.specs.Edits.{inserted, cut_from, cut_to, chars_deleted, line_from, line_to, lines_deleted, replaced}
use Rattle.after.specs.After.{after_insert, after_delete_char, after_delete_lines}
use Rattle.after.proofs.Inserts.{insert-before}
use Rattle.after.proofs.Deletes.{delete_before, delete_inside, lines-above, lines-inside}
use Rattle.after.proofs.Behind.{insert-behind, insert-there, insert-order, delete_behind, delete_order, lines-behind, lines-least, lines-order}
use Rattle.text.proofs.Near.{Near, near_at}
use Rattle.letters.proofs.Carries.{Carries}
use Rattle.letters.proofs.Splices.{Splice, past-goes, carries_splice}

module _ {A : Type 0} (lf : A → Bool) {Free : A → Type 0} (lfs : (x : A) → lf x ≡ true → Free x) (t : List A) where
  -- ---- insertions: of X, which x has the breaks of

  pub carries_insert : (q : Position) (X : List A) (x : List ℕ) → end_of is_lf x ≡ end_of lf X → clamp lf t q ≡ q → ((s : List A) (y : A) (r : List A) → X ≡ s ++ y ∷ r → Free y)
      → Carries lf Free (λ p. after_insert p q x) t (inserted lf t q X).text
  unfolding inserted
  carries_insert q X x ex i fresh =
      let o : ℕ = offset lf t q in
      let e : end_of lf (take o t) ≡ q = end_take lf t q ∙ i in
      let g : (d : Position) → after_insert (end_of lf (take o t) ⊕ end_of lf [] ⊕ d) q x ≡ end_of lf (take o t) ⊕ end_of lf X ⊕ d =
      λ d. rw (end-first lf (end_of lf (take o t)), e, ← ex) (insert-behind q x d) in
      let c : Splice lf (λ p. after_insert p q x) (take o t) [] X (drop o t) = record {
        ahead = λ s y r k. sym (insert-before (end_of lf s) q x (rw (← e) (before-end lf y r (take o t) s k)));
        inside = λ s y r k. absurd (none_in s y r k);
        goes = λ s y r k. g (end_of lf s);
        outside = past-goes lf (λ p. after_insert p q x) (take o t) [] X (drop o t) g;
      } in
      subst (λ (l : List A). Carries lf Free (λ p. after_insert p q x) l (spliced t o o X)) (take-append-drop o t) (carries_splice lf c lfs fresh (λ a b m h. insert-order q x a b h))

  -- ---- cuts from a to b

  module _ (a b : Position) (ia : clamp lf t a ≡ a) (ib : clamp lf t b ≡ b) (u : upto a b ≡ true) where
    abbrev P : List A
    P = take (cut_from lf t a b) t

    abbrev X : List A
    X = slice (cut_from lf t a b) (cut_to lf t a b) t

    abbrev Q : List A
    Q = drop (cut_to lf t a b) t

    begins : end_of lf P ≡ a
    begins = rw (earlier-first a b u) (end_take lf t a ∙ ia)

    up_to : cut_to lf t a b ≡ offset lf t b
    up_to = let m = offset-mono lf t a b ia ib u in rw (earlier-first a b u, later_second a b u) (omega arith)

    ends : end_of lf P ⊕ end_of lf X ≡ b
    ends = sym (end-append lf P X) ∙ ap (end_of lf) (front-slice (cut_from lf t a b) (cut_to lf t a b) t (omega arith)) ∙ rw up_to (end_take lf t b ∙ ib)

    parts : P ++ (X ++ Q) ≡ t
    parts = cut_parts (cut_from lf t a b) (cut_to lf t a b) t (omega arith)

    stays : (s : List A) (x : A) (r : List A) → P ≡ s ++ x ∷ r → upto a (end_of lf s) ≡ false
    stays s x r k = rw (← begins) (before-end lf x r P s k)

    -- an element that goes leaves its place for the start
    collapses : (s : List A) (x : A) (r : List A) → X ≡ s ++ x ∷ r → after_delete_char (end_of lf P ⊕ end_of lf s) a b ≡ a
    collapses s x r k =
        let p : Position = end_of lf P ⊕ end_of lf s in
        let f : upto a p ≡ true = rw begins (behind a (end_of lf s)) in
        let n : upto b p ≡ false = subst (λ (z : Position). upto z p ≡ false) ends (past s x r k) in
        ⊎_elim (λ h. sym (delete_before p a b h) ∙ upto-both p a h f) (λ h. sym (delete_inside p a b h n)) (known (upto p a))
      where
        past : (s : List A) (x : A) (r : List A) → X ≡ s ++ x ∷ r → upto (end_of lf P ⊕ end_of lf X) (end_of lf P ⊕ end_of lf s) ≡ false
        past s x r k =
            let w : end_of lf P ⊕ end_of lf X ≡ end_of lf P ⊕ end_of lf s ⊕ end_of lf (x ∷ r) = ap (λ (l : List A). end_of lf P ⊕ end_of lf l) k ∙ end-both lf (end_of lf P) s (x ∷ r) in
            rw w (past_end lf x r (end_of lf P ⊕ end_of lf s))

    pub carries_chars : Carries lf Free (λ p. after_delete_char p a b) t (chars_deleted lf t a b).text
    unfolding chars_deleted
    carries_chars =
        let g : (d : Position) → after_delete_char (end_of lf P ⊕ end_of lf X ⊕ d) a b ≡ end_of lf P ⊕ end_of lf [] ⊕ d =
        λ d. rw (ends, begins, end-first lf a) (delete_behind a b u d) in
        let c : Splice lf (λ p. after_delete_char p a b) P X [] Q = record {
          ahead = λ s x r k. sym (delete_before (end_of lf s) a b (upto-total a (end_of lf s) (stays s x r k)));
          inside = λ s x r k. near_at lf P Q (after_delete_char (end_of lf P ⊕ end_of lf s) a b) (begins ∙ sym (collapses s x r k));
          goes = λ s x r k. g (end_of lf s);
          outside = past-goes lf (λ p. after_delete_char p a b) P X [] Q g;
        } in
        subst (λ (l : List A). Carries lf Free (λ p. after_delete_char p a b) l (P ++ ([] ++ Q))) parts (carries_splice lf c lfs (λ s x r k. absurd (none_in s x r k)) (λ p q m h. delete_order a b u p q h))

    pub carries_replace : (Y : List A) (y : List ℕ) → end_of is_lf y ≡ end_of lf Y → ((s : List A) (x : A) (r : List A) → Y ≡ s ++ x ∷ r → Free x)
        → Carries lf Free (λ p. after_insert (after_delete_char p a b) a y) t (replaced lf t a b Y).text
    unfolding replaced inserted
    carries_replace Y y ey fresh =
        let sh : Position → Position = λ p. after_insert (after_delete_char p a b) a y in
        let g : (d : Position) → sh (end_of lf P ⊕ end_of lf X ⊕ d) ≡ end_of lf P ⊕ end_of lf Y ⊕ d =
        λ d. rw (ends, begins, delete_behind a b u d, insert-behind a y d, ey) in
        let c : Splice lf sh P X Y Q = record {
          ahead = λ s x r k.
              let n = stays s x r k in
              ap (λ (q : Position). after_insert q a y) (sym (delete_before (end_of lf s) a b (upto-total a (end_of lf s) n))) ∙ sym (insert-before (end_of lf s) a y n);
          inside = λ s x r k. subst (λ (l : List A). Near lf l (sh (end_of lf P ⊕ end_of lf s))) (append_assoc P Y Q) (near_at lf (P ++ Y) Q (sh (end_of lf P ⊕ end_of lf s)) (there s x r k));
          goes = λ s x r k. g (end_of lf s);
          outside = past-goes lf sh P X Y Q g;
        } in
        let o : offset lf (P ++ Q) (earlier a b) ≡ length P = subst (λ (s : Position). offset lf (P ++ Q) s ≡ length P) (begins ∙ sym (earlier-first a b u)) (offset-end lf P Q) in
        let w : P ++ (Y ++ Q) ≡ spliced (P ++ ([] ++ Q)) (offset lf (P ++ Q) (earlier a b)) (offset lf (P ++ Q) (earlier a b)) Y = rw (o, take-append_seam P Q, drop-append_seam P Q) in
        subst (λ (l : List A). Carries lf Free sh t l) w (subst (λ (l : List A). Carries lf Free sh l (P ++ (Y ++ Q))) parts (carries_splice lf c lfs fresh (λ p q m h. insert-order a y (after_delete_char p a b) (after_delete_char q a b) (delete_order a b u p q h))))
      where
        there : (s : List A) (x : A) (r : List A) → X ≡ s ++ x ∷ r → end_of lf (P ++ Y) ≡ after_insert (after_delete_char (end_of lf P ⊕ end_of lf s) a b) a y
        there s x r k = end-append lf P Y ∙ rw (begins, ← ey) (sym (insert-there a y)) ∙ ap (λ (q : Position). after_insert q a y) (sym (collapses s x r k))

  -- ---- rows from lo to hi, which may lie past the last

  module _ (lo hi : ℕ) (u : lo ≤ hi) where
    abbrev sh : Position → Position
    sh p = after_delete_lines p lo hi

    -- up to the end: s is where the text ends then
    carries_last : (s : Position) → clamp lf t s ≡ s → ((p : Position) → upto s p ≡ false → p.row.0 < lo) → upto s (at lo 0) ≡ true
        → Carries lf Free sh t (spliced t (offset lf t s) (length t) [])
    carries_last s i above low =
        let o : ℕ = offset lf t s in
        let e : end_of lf (take o t) ≡ s = end_take lf t s ∙ i in
        let w : take o t ++ ([] ++ []) ≡ take o t ++ ([] ++ drop (length t) t) = rw (drop-length t) in
        let v : take o t ++ (drop o t ++ []) ≡ t = rw (append-nil (drop o t)) (take-append-drop o t) in
        let c : Splice lf sh (take o t) (drop o t) [] [] = record {
          ahead = λ r x k q. sym (lines-above (end_of lf r) lo hi (above (end_of lf r) (rw (← e) (before-end lf x k (take o t) r q))));
          inside = λ r x k q. inr (rw (append-nil (take o t), e) (least (s ⊕ end_of lf r) (behind s (end_of lf r))));
          goes = λ r x k q. absurd (none_in r x k q);
          outside = λ p h. rw (append-nil (take o t), e) (least p (upto-trans s (end_of lf (take o t ++ (drop o t ++ []))) p (subst (λ (z : Position). upto z (end_of lf (take o t ++ (drop o t ++ []))) ≡ true) e (end-upto lf (take o t) (drop o t ++ []))) h));
        } in
        subst (λ (l : List A). Carries lf Free sh t l) w (subst (λ (l : List A). Carries lf Free sh l (take o t ++ ([] ++ []))) v (carries_splice lf c lfs (λ r x k q. absurd (none_in r x k q)) (λ p q m h. lines-order lo hi u p q h)))
      where
        least : (p : Position) → upto s p ≡ true → upto s (sh p) ≡ true
        least p h = elim (dec_le lo p.row.0) [ yes l ↦ upto-trans s (at lo 0) (sh p) low (lines-least lo hi u p l) | no l ↦ rw (← lines-above p lo hi (omega arith)) h ]

    -- rows that others follow
    carries_between : hi < last_row lf t → Carries lf Free sh t (spliced t (offset lf t (at lo 0)) (row_start lf t (suc hi)) [])
    carries_between l =
        subst (λ (z : List A). Carries lf Free sh z (take x t ++ ([] ++ drop y t))) (cut_parts x y t le) (carries_splice lf c lfs (λ s z r q. absurd (none_in s z r q)) (λ p q m h. lines-order lo hi u p q h))
      where
        x : ℕ
        x = offset lf t (at lo 0)

        y : ℕ
        y = row_start lf t (suc hi)

        begins : end_of lf (take x t) ≡ at lo 0
        begins = end_take lf t (at lo 0) ∙ clamp-place lf t lo 0 (omega arith) (omega arith)

        last : offset lf t (at (suc hi) 0) ≡ y
        last = offset-place lf t (suc hi) 0 l (omega arith) ∙ add-zero (row_start lf t (suc hi))

        le : x ≤ y
        le = omega (arith, offset-place lf t lo 0 (omega arith) (omega arith), add-zero (row_start lf t lo), start-mono lf t lo (suc hi) (omega arith))

        ends : end_of lf (take x t) ⊕ end_of lf (slice x y t) ≡ at (suc hi) 0
        ends =
            sym (end-append lf (take x t) (slice x y t)) ∙ ap (end_of lf) (front-slice x y t le)
            ∙ subst (λ (n : ℕ). end_of lf (take n t) ≡ at (suc hi) 0) last (end_take lf t (at (suc hi) 0) ∙ clamp-place lf t (suc hi) 0 l (omega arith))

        g : (d : Position) → sh (end_of lf (take x t) ⊕ end_of lf (slice x y t) ⊕ d) ≡ end_of lf (take x t) ⊕ end_of lf [] ⊕ d
        g d = rw (ends, begins, end-first lf (at lo 0)) (lines-behind lo hi u d)

        collapses : (s : List A) (z : A) (r : List A) → slice x y t ≡ s ++ z ∷ r → sh (end_of lf (take x t) ⊕ end_of lf s) ≡ at lo 0
        collapses s z r q =
            let p : Position = end_of lf (take x t) ⊕ end_of lf s in
            let w : at (suc hi) 0 ≡ p ⊕ end_of lf (z ∷ r) = sym ends ∙ ap (λ (l : List A). end_of lf (take x t) ⊕ end_of lf l) q ∙ end-both lf (end_of lf (take x t)) s (z ∷ r) in
            let n : upto (at (suc hi) 0) p ≡ false = subst (λ (q : Position). upto q p ≡ false) (sym w) (past_end lf z r p) in
            let f : lo ≤ p.row.0 = row_le (at lo 0) p (rw begins (behind (at lo 0) (end_of lf s))) in
            sym (lines-inside p lo hi f (⊎_elim (λ k. omega arith) (λ k. absurd (omega arith)) (past_is (at (suc hi) 0) p n)))

        c : Splice lf sh (take x t) (slice x y t) [] (drop y t)
        c = record {
          ahead = λ s z r q. sym (lines-above (end_of lf s) lo hi (⊎_elim (λ k. omega arith) (λ k. absurd (omega arith)) (past_is (at lo 0) (end_of lf s) (subst (λ (p : Position). upto p (end_of lf s) ≡ false) begins (before-end lf z r (take x t) s q)))));
          inside = λ s z r q. near_at lf (take x t) (drop y t) (sh (end_of lf (take x t) ⊕ end_of lf s)) (begins ∙ sym (collapses s z r q));
          goes = λ s z r q. g (end_of lf s);
          outside = past-goes lf sh (take x t) (slice x y t) [] (drop y t) g;
        }

  pub carries_lines : (a b : Position) → a.row.0 ≤ b.row.0 → Carries lf Free (λ p. after_delete_lines p a.row.0 b.row.0) t (lines_deleted lf t a b).text
  unfolding lines_deleted line_from line_to
  carries_lines a b u = go (ltb hi (last_row lf t)) refl (ltb 0 lo) refl
    where
      lo : ℕ
      lo = min (min a.row.0 b.row.0) (last_row lf t)

      hi : ℕ
      hi = min (max a.row.0 b.row.0) (last_row lf t)

      go : (c : Bool) → ltb hi (last_row lf t) ≡ c → (d : Bool) → ltb 0 lo ≡ d
          → Carries lf Free (λ p. after_delete_lines p a.row.0 b.row.0) t (spliced t (offset lf t (cond c (at lo 0) (cond d (at (lo - 1) (row_len lf t (lo - 1))) (at 0 0)))) (cond c (row_start lf t (suc hi)) (length t)) [])
      go true i d j =
          let k : hi < last_row lf t = ltb-true hi (last_row lf t) i in
          let e : lo ≡ a.row.0 = omega arith in
          let f : hi ≡ b.row.0 = omega arith in
          rw (e, f) (carries_between a.row.0 b.row.0 u (omega arith))
      go false i true j =
          let k : 0 < lo = ltb-true 0 lo j in
          carries_last a.row.0 b.row.0 u (at (lo - 1) (row_len lf t (lo - 1))) (clamp-place lf t (lo - 1) (row_len lf t (lo - 1)) (omega arith) (omega arith))
          (λ p n. ⊎_elim (λ z. omega arith) (λ z. omega arith) (past_is (at (lo - 1) (row_len lf t (lo - 1))) p n)) (is_upto (at (lo - 1) (row_len lf t (lo - 1))) (at a.row.0 0) (inl (omega arith)))
      go false i false j =
          carries_last a.row.0 b.row.0 u (at 0 0) (clamp-place lf t 0 0 (omega arith) (omega arith)) (λ p n. absurd (⊎_elim (λ z. omega arith) (λ z. omega arith) (past_is (at 0 0) p n)))
          (first a.row.0)
        where
          first : (r : ℕ) → upto (at 0 0) (at r 0) ≡ true
          first zero = is_upto (at 0 0) (at 0 0) (inr (refl, omega arith))
          first (suc r) = is_upto (at 0 0) (at (suc r) 0) (inl (omega arith))
