-- Joins, one after another: what stands below an LF that goes moves up onto the row before it.
use mathlib.Core.Path.{◌≡◌, refl, sym, ◌∙◌, ap, subst}
use mathlib.Core.Bool.{Bool, true, false, not}
use mathlib.Core.List.{List, [], ◌∷◌, ◌++◌, append_assoc, append-nil, map}
use Prim.Native.Nat.{ℕ, suc, ◌+◌, ◌≤◌, ◌<◌, min, max}
use native.Mathlib.Nat.{zero-add}
use native.Mathlib.Decide.{dec_le}
use native.Mathlib.Omega.{arith}
use lib.Dec.{T}
use lib.ListN.{length, take, drop, get_or, length-append, take-append-drop, drop_of_length-le}
use lib.Seq.{split_at, length-take-le, take-nil, drop-nil, get_or-append_seam}
use Rattle.promise.proofs.Lists.{none_in}
use Rattle.text.specs.declared.Position.{Position}
use Rattle.text.specs.Rows.{Line, line, lines, unlines, at, upto, ◌⊕◌, last_row, row_len, end_of}
use Rattle.text.specs.Text.{is_lf}
use Rattle.text.proofs.Laws.{end-append, unlines-lines, rows_last, rows-len}
use Rattle.text.proofs.Order.{row_le}
use Rattle.text.proofs.Holds.{end-first}
use Rattle.text.proofs.Spots.{end-upto}
use Rattle.text.proofs.Broken.{unlines-append, Unbroken, Broken, next, lines-broken, lines-unlines, broken_right, broken_change, row_end_lem, row_next, rows_end}
use Rattle.joins.specs.Turns.{gap_len}
use Rattle.joins.proofs.JoinRows.{gap_length}
use Rattle.edit.specs.Edits.{Made, gap, join_next, join_row, joined}
use Rattle.edit.proofs.Joins.{gap-all, next_broken}
use Rattle.edit.proofs.Maps.{map_line, map-length, map-take, map-drop, map-lines, map-get_d}
use Rattle.after.specs.After.{start_cols, after_join}
use Rattle.after.proofs.JoinCols.{cols_map, landed, landed_none, landed_above, landed_then, landed_behind, landed_order, joined_cols, join-landed}
use Rattle.text.proofs.Near.{Near, near_at, near_within}
use Rattle.letters.proofs.Carries.{Carries, carries_then, carries_as, carries_none}
use Rattle.letters.proofs.Splices.{Splice, past-goes, carries_splice}

module _ {A : Type 0} (lf : A → Bool) {Free : A → Type 0} (lfs : (x : A) → lf x ≡ true → Free x) (space : A) (dull : T (not (lf space))) (spaced : Free space) (b : Bool) where
  -- what comes in is that space
  gap-free : (r s u : List A) (x : A) (v : List A) → gap space b r s ≡ u ++ x ∷ v → Free x
  unfolding gap
  gap-free r s u x v e = go b r s e
    where
      none : [] ≡ u ++ x ∷ v → Free x
      none e = absurd (none_in u x v e)

      one : (u : List A) → space ∷ [] ≡ u ++ x ∷ v → Free x
      one [] e = let k : space ≡ x = cc in subst Free k spaced
      one (w ∷ u) e = absurd (none_in u x v (cc))

      go : (b : Bool) (r s : List A) → gap space b r s ≡ u ++ x ∷ v → Free x
      go true (y ∷ r) (z ∷ s) e = one u e
      go true (y ∷ r) [] e = none e
      go true [] s e = none e
      go false r s e = none e

  -- the row y onto the row before it, whose body is d and whose LF is k
  module _ (X : List (Line A)) (d : List A) (k : A) (y : Line A) (Y : List (Line A)) (h : Broken lf (X ++ line d (k ∷ []) ∷ y ∷ Y)) (plain : Unbroken lf d) (q : lf k ≡ true) where
    abbrev r : ℕ
    r = length X

    abbrev c : ℕ
    c = length d + gap_len b (length d) (length y.body)

    abbrev P : List A
    P = unlines X ++ d

    abbrev G : List A
    G = gap space b d y.body

    abbrev Q : List A
    Q = y.body ++ (y.after ++ unlines Y)

    before : unlines (X ++ line d (k ∷ []) ∷ y ∷ Y) ≡ P ++ ((k ∷ []) ++ Q)
    unfolding unlines
    before = unlines-append X (line d (k ∷ []) ∷ y ∷ Y) ∙ sym (append_assoc (unlines X) d ((k ∷ []) ++ Q))

    after : unlines (X ++ join_next space b (line d (k ∷ [])) y ∷ Y) ≡ P ++ (G ++ Q)
    unfolding unlines
    after =
        unlines-append X (join_next space b (line d (k ∷ [])) y ∷ Y)
        ∙ ap (λ (l : List A). unlines X ++ l) (append_assoc d (G ++ y.body) (y.after ++ unlines Y) ∙ ap (λ (l : List A). d ++ l) (append_assoc G y.body (y.after ++ unlines Y)))
        ∙ sym (append_assoc (unlines X) d (G ++ Q))

    end-d : end_of lf P ≡ at r 0 ⊕ end_of lf d
    end-d = end-append lf (unlines X) d ∙ ap (λ (p : Position). p ⊕ end_of lf d) (rows_end lf X (line d (k ∷ [])) (y ∷ Y) h)

    end-P : end_of lf P ≡ at r (length d)
    end-P = end-d ∙ row_end_lem lf r 0 d plain ∙ rw zero-add

    begins : end_of lf P ⊕ end_of lf (k ∷ []) ≡ at (suc r) 0
    begins = ap (λ (p : Position). p ⊕ end_of lf (k ∷ [])) end-d ∙ row_next lf r 0 d k plain q

    lands : end_of lf P ⊕ end_of lf G ≡ at r c
    lands = ap (λ (p : Position). p ⊕ end_of lf G) end-P ∙ row_end_lem lf r (length d) G (gap-all (λ x. not (lf x)) space dull b d y.body) ∙ rw (gap_length space b d y.body)

    up_to_row_lem : (s v : List A) → P ≡ s ++ v → (end_of lf s).row.0 ≤ r
    up_to_row_lem s v i =
        let e : end_of lf (s ++ v) ≡ at r (length d) = ap (end_of lf) (sym i) ∙ end-P in
        row_le (end_of lf s) (at r (length d)) (subst (λ (p : Position). upto (end_of lf s) p ≡ true) e (end-upto lf s v))

    goes : (p : Position) → landed r (c ∷ []) (end_of lf P ⊕ end_of lf (k ∷ []) ⊕ p) ≡ end_of lf P ⊕ end_of lf G ⊕ p
    goes p = rw (begins, lands) (landed_behind r c p)

    only : (s : List A) (x : A) (v : List A) → k ∷ [] ≡ s ++ x ∷ v → Near lf (P ++ (G ++ Q)) (landed r (c ∷ []) (end_of lf P ⊕ end_of lf s))
    only [] x v e = near_at lf P (G ++ Q) (landed r (c ∷ []) (end_of lf P ⊕ end_of lf [])) (sym (ap (landed r (c ∷ [])) (end-first lf (end_of lf P)) ∙ landed_above r (c ∷ []) (end_of lf P) (up_to_row_lem P [] (sym (append-nil P)))))
    only (w ∷ s) x v e = absurd (none_in s x v (cc))

    -- a mark in the row is no further than it is long
    in_row_r : (p : Position) → Near lf (unlines (X ++ line d (k ∷ []) ∷ y ∷ Y)) p → p.row.0 ≡ r → p.col.0 ≤ c
    in_row_r p m e =
        let L : List (Line A) = X ++ line d (k ∷ []) ∷ y ∷ Y in
        let i : lines lf (unlines L) ≡ L = lines-unlines lf h in
        let n : p.row.0 < last_row lf (unlines L) = omega (arith, rows_last lf (unlines L) L i, length-append X (line d (k ∷ []) ∷ y ∷ Y)) in
        let w : row_len lf (unlines L) r ≡ length d = rows-len lf (unlines L) L i r ∙ ap (λ (l : Line A). length l.body) (get_or-append_seam X (line d (k ∷ [])) (y ∷ Y) (line [] [])) in
        let j : p.col.0 ≤ row_len lf (unlines L) r = subst (λ (m : ℕ). p.col.0 ≤ row_len lf (unlines L) m) e (near_within lf (unlines L) p m n) in
        omega arith

    carries_one : Carries lf Free (landed r (c ∷ [])) (unlines (X ++ line d (k ∷ []) ∷ y ∷ Y)) (unlines (X ++ join_next space b (line d (k ∷ [])) y ∷ Y))
    carries_one =
        let s : Splice lf (landed r (c ∷ [])) P (k ∷ []) G Q = record {
          ahead = λ s x v i. landed_above r (c ∷ []) (end_of lf s) (up_to_row_lem s (x ∷ v) i);
          inside = only;
          goes = λ s x v i. goes (end_of lf s);
          outside = past-goes lf (landed r (c ∷ [])) P (k ∷ []) G Q goes;
        } in
        subst (λ (l : List A). Carries lf Free (landed r (c ∷ [])) (unlines (X ++ line d (k ∷ []) ∷ y ∷ Y)) l) (sym after)
        (subst (λ (l : List A). Carries lf Free (landed r (c ∷ [])) l (P ++ (G ++ Q))) (sym before)
        (carries_splice lf s lfs (gap-free d y.body) (λ p z m u. landed_order r c p z (in_row_r p (rw before m)) u)))

  next_join : (X : List (Line A)) {x : Line A} (y : Line A) (Y : List (Line A)) → Broken lf (x ∷ y ∷ Y) → Broken lf (X ++ x ∷ y ∷ Y)
      → Carries lf Free (landed (length X) ((length x.body + gap_len b (length x.body) (length y.body)) ∷ [])) (unlines (X ++ x ∷ y ∷ Y)) (unlines (X ++ join_next space b x y ∷ Y))
  next_join X y Y (next d k p q m) h = carries_one X d k y Y h p q

  -- all of them
  pub carries_joins : (ys X : List (Line A)) (x : Line A) (rest : List (Line A)) → Broken lf (X ++ x ∷ (ys ++ rest))
      → Carries lf Free (landed (length X) (start_cols b (length x.body) ys)) (unlines (X ++ x ∷ (ys ++ rest))) (unlines (X ++ join_row space b x ys ∷ rest))
  unfolding start_cols join_row
  carries_joins [] X x rest h = carries_as lf (λ p. sym (landed_none (length X) p)) refl (carries_none lf lfs (unlines (X ++ x ∷ rest)))
  carries_joins (y ∷ ys) X x rest h =
      let z : Line A = join_next space b x y in
      let n : ℕ = length x.body + gap_len b (length x.body) (length y.body) in
      let k : Broken lf (x ∷ y ∷ (ys ++ rest)) = broken_right lf X x (y ∷ (ys ++ rest)) h in
      let l : length z.body ≡ n + length y.body =
      omega (arith, length-append x.body (gap space b x.body y.body ++ y.body), length-append (gap space b x.body y.body) y.body, gap_length space b x.body y.body) in
      let rest-carries = carries_joins ys X z rest (broken_change lf X x (y ∷ (ys ++ rest)) (z ∷ (ys ++ rest)) h (next_broken lf space dull b k)) in
      carries_as lf (λ p. ap (λ (m : ℕ). landed (length X) (start_cols b m ys) (landed (length X) (n ∷ []) p)) l ∙ landed_then (length X) n (start_cols b (n + length y.body) ys) p) refl
      (carries_then lf (next_join X y (ys ++ rest) k h) rest-carries)

-- ---- the kind: the shift sees the characters alone

module _ {A : Type 0} (v : A → ℕ) (lf sp : A → Bool) (same : (x : A) → is_lf (v x) ≡ lf x) {Free : A → Type 0} (lfs : (x : A) → lf x ≡ true → Free x) (made : Made A)
    (dull : T (not (lf made.space))) (spaced : Free made.space) (t : List A) (row count : ℕ) (b : Bool) where
  abbrev L : List (Line A)
  L = lines lf t

  abbrev x : Line A
  x = get_or L row (line [] [])

  abbrev low : List (Line A)
  low = drop (suc row) L

  abbrev ys : List (Line A)
  ys = take (max count 1) low

  same_cols : joined_cols row count b (map v t) ≡ start_cols b (length x.body) ys
  unfolding row_len
  same_cols =
      rw (map-lines v lf is_lf same t, map-drop (map_line v) (suc row) L, map-take (map_line v) (max count 1) low)
      (rw (map-get_d (map_line v) L row (line [] []), map-length v x.body) (cols_map v b (length x.body) ys))

  many : last_row lf t + 1 ≡ length L
  many = rows_last lf t L refl

  -- with no row below nothing is joined
  none : last_row lf t ≤ row → Carries lf Free (λ p. after_join p row count b (map v t)) t (joined lf sp made t row count b).text
  unfolding joined join_row start_cols
  none l =
      let e : min row (last_row lf t) ≡ last_row lf t = omega arith in
      let z : length L ≤ suc (last_row lf t) = omega (arith, many) in
      let i : length L ≤ suc row = omega (arith, many) in
      let k : last_row lf t < length L = omega (arith, many) in
      let c : joined_cols row count b (map v t) ≡ [] = same_cols ∙ rw (drop_of_length-le L i, take-nil {A = Line A} (max count 1)) in
      let w : t ≡ unlines (take (last_row lf t) L ++ get_or L (last_row lf t) (line [] []) ∷ []) = sym (unlines-lines lf t) ∙ ap unlines (split_at L (last_row lf t) (line [] []) k ∙ rw (drop_of_length-le L z)) in
      carries_as lf (λ p. sym (landed_none row p) ∙ ap (λ (l : List ℕ). landed row l p) (sym c) ∙ join-landed p row count b (map v t))
      (rw (e, drop_of_length-le L z, take-nil {A = Line A} (max count 1), drop-nil {A = Line A} (max count 1)) w) (carries_none lf lfs t)

  some : row < last_row lf t → Carries lf Free (λ p. after_join p row count b (map v t)) t (joined lf sp made t row count b).text
  unfolding joined
  some l =
      let e : min row (last_row lf t) ≡ row = omega arith in
      let n : length (take row L) ≡ row = length-take-le row L (omega (arith, many)) in
      let rest : List (Line A) = drop (max count 1) low in
      let i : L ≡ take row L ++ x ∷ (ys ++ rest) = split_at L row (line [] []) (omega (arith, many)) ∙ ap (λ (l : List (Line A)). take row L ++ x ∷ l) (sym (take-append-drop (max count 1) low)) in
      let w : unlines (take row L ++ x ∷ (ys ++ rest)) ≡ t = ap unlines (sym i) ∙ unlines-lines lf t in
      let c = carries_joins lf lfs made.space dull spaced b ys (take row L) x rest (subst (Broken lf) i (lines-broken lf t)) in
      rw e
      (subst (λ (u : List A). Carries lf Free (λ p. after_join p row count b (map v t)) u (unlines (take row L ++ join_row made.space b x ys ∷ rest))) w
      (carries_as lf (λ p. ap (λ (m : ℕ). landed m (start_cols b (length x.body) ys) p) n ∙ ap (λ (l : List ℕ). landed row l p) (sym same_cols) ∙ join-landed p row count b (map v t)) refl c))

  pub carries_join : Carries lf Free (λ p. after_join p row count b (map v t)) t (joined lf sp made t row count b).text
  carries_join = elim (dec_le (last_row lf t) row) [ yes l ↦ none l | no l ↦ some (omega arith) ]
