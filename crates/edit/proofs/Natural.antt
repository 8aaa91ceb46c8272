-- A map that keeps LF and space commutes with every edit.
use mathlib.Core.Path.{◌≡◌, refl, sym, ◌∙◌, ap, ap₂}
use mathlib.Core.List.{List, [], ◌∷◌, ◌++◌, map, flatten}
use mathlib.Core.Bool.{Bool, true, false, cond}
use Prim.Native.Nat.{ℕ, zero, suc, ◌+◌, ◌-◌, min, max}
use lib.ListN.{length, take, drop, get_or, replicate}
use Rattle.promise.proofs.Lists.{Every}
use Rattle.text.specs.declared.Position.{Position}
use Rattle.text.specs.Rows.{Line, line, lines, earlier, later, last_row, offset, end_of, spliced}
use Rattle.edit.specs.declared.MotionKind.{MotionKind}
use Rattle.edit.specs.declared.MotionKind.TheVariants.{Char, Line as Lines, Block}
use Rattle.edit.specs.declared.Edit.{Edit}
use Rattle.edit.specs.declared.Edit.TheVariants.{InsertChar, InsertStr, DeleteRange, JoinLines, SplitLines, Replace, InsertBlock, DeleteBlockChunks}
use Rattle.edit.specs.Edits.{Made, Edited, inserted, cut_from, cut_to, chars_deleted, line_from, line_to, lines_deleted, replaced, from_row, gap, join_next, join_row, join_cols, join_flags, put, put_all, pads_of, pieces, cut_all, chunks_of, joined, unspace, split_first, split_row, split, block_inserted, chunks_deleted, corner, height, breadth, range_deleted, edited_by}
use Rattle.edit.specs.Theorems.{map_made, map_edited, Natural}
use Rattle.edit.proofs.Maps.{map-append, map-take, map-drop, map-replicate, map-length, map-get_d, map_line, map-slice, map-spliced, map-unlines, map-lines, map_last, map-len, map-start, map-clamp, map-offset, map-end}

module _ {A B : Type 0} (f : A → B) where
  map-gap : (sp : A) (b : Bool) (r s : List A) → gap (f sp) b (map f r) (map f s) ≡ map f (gap sp b r s)
  unfolding gap
  map-gap sp true (x ∷ r) (y ∷ s) = refl
  map-gap sp true (x ∷ r) [] = refl
  map-gap sp true [] s = refl
  map-gap sp false r s = refl

  map_next : (sp : A) (b : Bool) (r s : Line A) → join_next (f sp) b (map_line f r) (map_line f s) ≡ map_line f (join_next sp b r s)
  map_next sp b r s =
      ap (λ (l : List B). line l (map f s.after))
      (rw (map-append f r.body (gap sp b r.body s.body ++ s.body), map-append f (gap sp b r.body s.body) s.body, map-gap sp b r.body s.body))

  map-join : (sp : A) (b : Bool) (r : Line A) (ss : List (Line A)) → join_row (f sp) b (map_line f r) (map (map_line f) ss) ≡ map_line f (join_row sp b r ss)
  unfolding join_row
  map-join sp b r [] = refl
  map-join sp b r (s ∷ ss) = ap (λ (l : Line B). join_row (f sp) b l (map (map_line f) ss)) (map_next sp b r s) ∙ map-join sp b (join_next sp b r s) ss

  map-cols : (sp : A) (b : Bool) (r : Line A) (ss : List (Line A)) → join_cols (f sp) b (map_line f r) (map (map_line f) ss) ≡ join_cols sp b r ss
  unfolding join_cols
  map-cols sp b r [] = refl
  map-cols sp b r (s ∷ ss) = rw (map_next sp b r s, map-length f r.body) (ap (◌∷◌ (length r.body)) (map-cols sp b (join_next sp b r s) ss))

  map-flags : (sp : A) (b : Bool) (r : Line A) (ss : List (Line A)) → join_flags (f sp) b (map_line f r) (map (map_line f) ss) ≡ join_flags sp b r ss
  unfolding join_flags
  map-flags sp b r [] = refl
  map-flags sp b r (s ∷ ss) =
      rw (map_next sp b r s, map-gap sp b r.body s.body, map-length f (gap sp b r.body s.body))
      (ap (◌∷◌ (length (gap sp b r.body s.body))) (map-flags sp b (join_next sp b r s) ss))

  map-put : (pad : A) (c : ℕ) (k r : List A) → put (f pad) c (map f k) (map f r) ≡ map f (put pad c k r)
  unfolding put
  map-put pad c k r =
      let s : List A = r ++ replicate (c - length r) pad in
      let e : map f r ++ replicate (c - length (map f r)) (f pad) ≡ map f s = sym (rw (map-append f r (replicate (c - length r) pad), map-length f r, map-replicate f (c - length r) pad)) in
      rw e (sym (rw (map-append f (take c s) (k ++ drop c s), map-append f k (drop c s), map-take f c s, map-drop f c s)))

  map-put_all : (pad : A) (c : ℕ) (ks : List (List A)) (rs : List (Line A)) → put_all (f pad) c (map (map f) ks) (map (map_line f) rs) ≡ map (map_line f) (put_all pad c ks rs)
  unfolding put_all
  map-put_all pad c [] rs = refl
  map-put_all pad c (k ∷ ks) [] = refl
  map-put_all pad c (k ∷ ks) (r ∷ rs) = ap₂ {C = List (Line B)} (λ l m. line l (map f r.after) ∷ m) (map-put pad c k r.body) (map-put_all pad c ks rs)

  map-pads : (c : ℕ) (ks : List (List A)) (rs : List (Line A)) → pads_of c (map (map f) ks) (map (map_line f) rs) ≡ pads_of c ks rs
  unfolding pads_of
  map-pads c [] rs = refl
  map-pads c (k ∷ ks) [] = ap (◌∷◌ 0) (map-pads c ks [])
  map-pads c (k ∷ ks) (r ∷ rs) = rw (map-length f r.body) (ap (◌∷◌ (c - length r.body)) (map-pads c ks rs))

  map-pieces : (ns : List ℕ) (x : List A) → pieces ns (map f x) ≡ map (map f) (pieces ns x)
  unfolding pieces
  map-pieces [] x = refl
  map-pieces (n ∷ ns) x = rw (map-take f n x, map-drop f n x) (ap (◌∷◌ (map f (take n x))) (map-pieces ns (drop n x)))

  map-cut_all : (c : ℕ) (ws ds : List ℕ) (rs : List (Line A)) → cut_all c ws ds (map (map_line f) rs) ≡ map (map_line f) (cut_all c ws ds rs)
  unfolding cut_all
  map-cut_all c [] ds rs = refl
  map-cut_all c (w ∷ ws) ds [] = refl
  map-cut_all c (w ∷ ws) ds (r ∷ rs) =
      ap₂ {C = List (Line B)} (λ l m. line l (map f r.after) ∷ m)
      (sym (rw (map-append f (take (c - get_or ds 0 0) r.body) (drop (c + w) r.body), map-take f (c - get_or ds 0 0) r.body, map-drop f (c + w) r.body)))
      (map-cut_all c ws (drop 1 ds) rs)

  map-chunks : (c : ℕ) (ws : List ℕ) (rs : List (Line A)) → chunks_of c ws (map (map_line f) rs) ≡ map (map f) (chunks_of c ws rs)
  unfolding chunks_of
  map-chunks c [] rs = refl
  map-chunks c (w ∷ ws) [] = ap (◌∷◌ []) (map-chunks c ws [])
  map-chunks c (w ∷ ws) (r ∷ rs) = ap₂ {C = List (List B)} (λ l m. l ∷ m) (rw (map-drop f c r.body, map-take f w (drop c r.body))) (map-chunks c ws rs)

  map-flatten : (ks : List (List A)) → flatten (map (map f) ks) ≡ map f (flatten ks)
  unfolding flatten
  map-flatten [] = refl
  map-flatten (k ∷ ks) = sym (rw (map-append f k (flatten ks), map-flatten ks))

  map-lengths : (ks : List (List A)) → map length (map (map f) ks) ≡ map length ks
  map-lengths [] = refl
  map-lengths (k ∷ ks) = ap₂ {C = List ℕ} (λ n l. n ∷ l) (map-length f k) (map-lengths ks)

module _ {A B : Type 0} (f : A → B) (lf sp : A → Bool) (lf' sp' : B → Bool) (h : (x : A) → lf' (f x) ≡ lf x) (k : (x : A) → sp' (f x) ≡ sp x) (made : Made A) where
  map-inserted : (t : List A) (p : Position) (x : List A) → inserted lf' (map f t) p (map f x) ≡ map_edited f (inserted lf t p x)
  unfolding inserted
  map-inserted t p x =
      let o : ℕ = offset lf t p in
      let e : end_of lf' (take o (map f t) ++ map f x) ≡ end_of lf (take o t ++ x) = rw (map-take f o t, ← map-append f (take o t) x) (map-end f lf lf' h (take o t ++ x)) in
      rw (map-offset f lf lf' h t p, e, map-spliced f t o o x, map-clamp f lf lf' h t p)

  map-chars : (t : List A) (p q : Position) → chars_deleted lf' (map f t) p q ≡ map_edited f (chars_deleted lf t p q)
  unfolding chars_deleted
  map-chars t p q =
      let a : ℕ = cut_from lf t p q in
      let b : ℕ = cut_to lf t p q in
      rw (map-offset f lf lf' h t (earlier p q), map-offset f lf lf' h t (later p q), map-spliced f t a b [], map-slice f a b t, map-clamp f lf lf' h (spliced t a b []) (earlier p q))

  map-line_from : (t : List A) (lo hi : ℕ) → line_from lf' (map f t) lo hi ≡ line_from lf t lo hi
  unfolding line_from
  map-line_from t lo hi = rw (map_last f lf lf' h t, map-len f lf lf' h t (lo - 1))

  map-line_to : (t : List A) (hi : ℕ) → line_to lf' (map f t) hi ≡ line_to lf t hi
  unfolding line_to
  map-line_to t hi = rw (map_last f lf lf' h t, map-start f lf lf' h t (suc hi), map-length f t)

  map-lines-deleted : (t : List A) (p q : Position) → lines_deleted lf' (map f t) p q ≡ map_edited f (lines_deleted lf t p q)
  unfolding lines_deleted
  map-lines-deleted t p q =
      let lo : ℕ = min (min p.row.0 q.row.0) (last_row lf t) in
      let hi : ℕ = min (max p.row.0 q.row.0) (last_row lf t) in
      let s : Position = line_from lf t lo hi in
      let a : ℕ = offset lf t s in
      let b : ℕ = line_to lf t hi in
      rw (map_last f lf lf' h t, map-line_from t lo hi, map-line_to t hi, map-offset f lf lf' h t s, map-spliced f t a b [], map-slice f a b t, map_last f lf lf' h (spliced t a b []))

  map-replaced : (t : List A) (p q : Position) (x : List A) → replaced lf' (map f t) p q (map f x) ≡ map_edited f (replaced lf t p q x)
  unfolding replaced
  map-replaced t p q x =
      let a : ℕ = cut_from lf t p q in
      let b : ℕ = cut_to lf t p q in
      let u : List A = spliced t a b [] in
      rw (map-offset f lf lf' h t (earlier p q), map-offset f lf lf' h t (later p q), map-spliced f t a b [], map-slice f a b t, map-clamp f lf lf' h u (earlier p q), map-inserted u (earlier p q) x)

  map-from_row : (t : List A) (r : ℕ) (new : List (Line A)) → from_row (lines lf' (map f t)) r (map (map_line f) new) ≡ map f (from_row (lines lf t) r new)
  map-from_row t r new =
      rw (map-lines f lf lf' h t, map-take (map_line f) r (lines lf t), ← map-append (map_line f) (take r (lines lf t)) new, map-unlines f (take r (lines lf t) ++ new))

  map-unspace : (g : ℕ) (s : List A) → unspace lf' sp' (map_made f made) g (map f s) ≡ map f (unspace lf sp made g s)
  unfolding unspace
  map-unspace zero s = refl
  map-unspace (suc g) [] = refl
  map-unspace (suc g) (x ∷ s) = rw (k x) (go (sp x))
    where
      go : (b : Bool) → cond b (map f s) (f x ∷ map f s) ≡ map f (cond b s (x ∷ s))
      go true = refl
      go false = refl

  map-split_first : (c g : ℕ) (rs : List (Line A)) → split_first lf' sp' (map_made f made) c g (map (map_line f) rs) ≡ map (map_line f) (split_first lf sp made c g rs)
  unfolding split_first
  map-split_first c g [] = refl
  map-split_first c g (r ∷ rs) =
      ap₂ {C = List (Line B)} (λ a b. line a (f made.break ∷ []) ∷ line b (map f r.after) ∷ map (map_line f) rs) (map-take f c r.body) (ap (unspace lf' sp' (map_made f made) g) (map-drop f c r.body) ∙ map-unspace g (drop c r.body))

  map-split_row : (r : Line A) (cs fs : List ℕ) → split_row lf' sp' (map_made f made) (map_line f r) cs fs ≡ map (map_line f) (split_row lf sp made r cs fs)
  unfolding split_row
  map-split_row r [] fs = refl
  map-split_row r (c ∷ cs) fs = ap (split_first lf' sp' (map_made f made) c (get_or fs 0 0)) (map-split_row r cs (drop 1 fs)) ∙ map-split_first c (get_or fs 0 0) (split_row lf sp made r cs (drop 1 fs))

  map-block : (t : List A) (p : Position) (x : List A) (ns : List ℕ) → block_inserted lf' sp' (map_made f made) (map f t) p (map f x) ns ≡ map_edited f (block_inserted lf sp made t p x ns)
  unfolding block_inserted
  map-block t p x ns =
      let r : ℕ = p.row.0 in
      let c : ℕ = p.col.0 in
      let rs : List (Line A) = drop r (lines lf t) in
      let ks : List (List A) = pieces ns x in
      let d : drop r (lines lf' (map f t)) ≡ map (map_line f) rs = rw (map-lines f lf lf' h t, map-drop (map_line f) r (lines lf t)) in
      let u : List A = from_row (lines lf t) r (put_all made.pad c ks rs) in
      rw (d, map-pieces f ns x, map-put_all f made.pad c ks rs, map-pads f c ks rs, map-from_row t r (put_all made.pad c ks rs), map-clamp f lf lf' h u p)

  map-chunks_deleted : (t : List A) (p : Position) (ws ds : List ℕ) → chunks_deleted lf' sp' (map_made f made) (map f t) p ws ds ≡ map_edited f (chunks_deleted lf sp made t p ws ds)
  unfolding chunks_deleted
  map-chunks_deleted t p ws ds =
      let r : ℕ = p.row.0 in
      let c : ℕ = p.col.0 in
      let rs : List (Line A) = drop r (lines lf t) in
      let ks : List (List A) = chunks_of c ws rs in
      let d : drop r (lines lf' (map f t)) ≡ map (map_line f) rs = rw (map-lines f lf lf' h t, map-drop (map_line f) r (lines lf t)) in
      let u : List A = from_row (lines lf t) r (cut_all c ws ds rs) in
      rw (d, map-chunks f c ws rs, map-cut_all f c ws ds rs, map-flatten f ks, map-lengths f ks, map-from_row t r (cut_all c ws ds rs), map-clamp f lf lf' h u p)

  map-joined : (t : List A) (row count : ℕ) (b : Bool) → joined lf' sp' (map_made f made) (map f t) row count b ≡ map_edited f (joined lf sp made t row count b)
  unfolding joined
  map-joined t row count b =
      let r : ℕ = min row (last_row lf t) in
      let n : ℕ = max count 1 in
      let x : Line A = get_or (lines lf t) r (line [] []) in
      let below : List (Line A) = drop (suc r) (lines lf t) in
      let ys : List (Line A) = take n below in
      let e : get_or (lines lf' (map f t)) r (line [] []) ≡ map_line f x = rw (map-lines f lf lf' h t) (map-get_d (map_line f) (lines lf t) r (line [] [])) in
      let d : drop (suc r) (lines lf' (map f t)) ≡ map (map_line f) below = rw (map-lines f lf lf' h t, map-drop (map_line f) (suc r) (lines lf t)) in
      rw (map_last f lf lf' h t, e, d, map-take (map_line f) n below, map-drop (map_line f) n below, map-join f made.space b x ys, map-cols f made.space b x ys, map-flags f made.space b x ys, map-from_row t r (join_row made.space b x ys ∷ drop n below))

  map-split : (t : List A) (row : ℕ) (cs fs : List ℕ) → split lf' sp' (map_made f made) (map f t) row cs fs ≡ map_edited f (split lf sp made t row cs fs)
  unfolding split
  map-split t row cs fs =
      let r : ℕ = min row (last_row lf t) in
      let x : Line A = get_or (lines lf t) r (line [] []) in
      let below : List (Line A) = drop (suc r) (lines lf t) in
      let e : get_or (lines lf' (map f t)) r (line [] []) ≡ map_line f x = rw (map-lines f lf lf' h t) (map-get_d (map_line f) (lines lf t) r (line [] [])) in
      let d : drop (suc r) (lines lf' (map f t)) ≡ map (map_line f) below = rw (map-lines f lf lf' h t, map-drop (map_line f) (suc r) (lines lf t)) in
      rw (map_last f lf lf' h t, e, d, map-split_row x cs fs, ← map-append (map_line f) (split_row lf sp made x cs fs) below, map-from_row t r (split_row lf sp made x cs fs ++ below))

  map_range : (t : List A) (p q : Position) (m : MotionKind) → range_deleted lf' sp' (map_made f made) (map f t) p q m ≡ map_edited f (range_deleted lf sp made t p q m)
  unfolding range_deleted
  map_range t p q Char = map-chars t p q
  map_range t p q Lines = map-lines-deleted t p q
  map_range t p q Block = map-chunks_deleted t (corner p q) (replicate (height p q) (breadth p q)) []

  map-edited : (e : Edit) (x : List A) (g s : List ℕ) (t : List A)
      → edited_by lf' sp' (map_made f made) e (map f x) g s (map f t) ≡ map_edited f (edited_by lf sp made e x g s t)
  unfolding edited_by
  map-edited (InsertChar p) x g s t = map-inserted t p x
  map-edited (InsertStr p) x g s t = map-inserted t p x
  map-edited (DeleteRange p q m) x g s t = map_range t p q m
  map-edited (JoinLines r n b) x g s t = map-joined t r.0 n b
  map-edited (SplitLines r) x g s t = map-split t r.0 g s
  map-edited (Replace p q) x g s t = map-replaced t p q x
  map-edited (InsertBlock p) x g s t = map-block t p x g
  map-edited (DeleteBlockChunks p) x g s t = map-chunks_deleted t p g s

pub natural : Natural
natural A B f lf sp lf' sp' h k made e x g s t = map-edited f lf sp lf' sp' h k made e x g s t

-- ---- so an edit has no elements but those that it was given: what every one of them has, every one of its text has

module _ {A : Type 0} (P : A → Type 0) where
  abbrev Having : Type 0
  Having = (x : A) × P x

  having : (t : List A) → Every P t → (u : List Having) × (map (λ (x : Having). x.0) u ≡ t)
  unfolding Every
  having [] h = ([], refl)
  having (x ∷ t) h = let r = having t h.1 in ((x, h.0) ∷ r.0, ap (◌∷◌ x) r.1)

  every_having : (u : List Having) → Every P (map (λ (x : Having). x.0) u)
  unfolding Every
  every_having [] = tt
  every_having (x ∷ u) = (x.1, every_having u)

  pub every_edited : (lf sp : A → Bool) (made : Made A) → P made.pad → P made.space → P made.break → (e : Edit) (x : List A) (g s : List ℕ) (t : List A)
      → Every P x → Every P t → Every P (edited_by lf sp made e x g s t).text
  every_edited lf sp made p q r e x g s t hx ht =
      let y = having x hx in
      let u = having t ht in
      let m : Made Having = record { pad = (made.pad, p); space = (made.space, q); break = (made.break, r) } in
      let n = natural Having A (λ c. c.0) (λ c. lf c.0) (λ c. sp c.0) lf sp (λ c. refl) (λ c. refl) m e y.0 g s u.0 in
      let w : (edited_by lf sp made e x g s t).text ≡ map (λ (c : Having). c.0) (edited_by (λ c. lf c.0) (λ c. sp c.0) m e y.0 g s u.0).text =
      sym (ap₂ (λ (a b : List A). (edited_by lf sp made e a g s b).text) y.1 u.1) ∙ ap (λ (d : Edited A). d.text) n in
      rw w (every_having (edited_by (λ c. lf c.0) (λ c. sp c.0) m e y.0 g s u.0).text)
