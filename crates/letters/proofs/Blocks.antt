-- Block edits, a row after another: chunks that come in and chunks that go.
use mathlib.Core.Path.{◌≡◌, refl, sym, ◌∙◌, ap, subst}
use mathlib.Core.Bool.{Bool, true, false, not}
use mathlib.Core.List.{List, [], ◌∷◌, ◌++◌, append_assoc, append-nil, map, map-id}
use Prim.Native.Nat.{ℕ, suc, ◌+◌, ◌-◌, ◌≤◌, ◌<◌}
use native.Mathlib.Nat.{add-zero, zero-add}
use native.Mathlib.Decide.{dec_le}
use native.Mathlib.Omega.{arith}
use lib.Dec.{T}
use lib.ListN.{length, take, drop, get_or, replicate, length-append, length-take, length-drop, length-replicate, take-append-drop, drop_of_length-le}
use lib.Seq.{append_snoc, length-take-le, take_all, get_or-drop}
use Rattle.promise.proofs.Lists.{replicate-only, Every}
use Rattle.text.specs.declared.Position.{Position}
use Rattle.text.specs.Rows.{Line, line, lines, unlines, at, ◌⊕◌, end_of}
use Rattle.text.proofs.Alls.{all_append, all_take, all_drop, all_replicate}
use Rattle.text.proofs.Laws.{unlines-lines, rows_last}
use Rattle.text.proofs.Holds.{Holds, holds_none, holds_append, holds_left, holds_right, holds_anywhere, holds_carried}
use Rattle.text.proofs.Broken.{Unbroken, Broken, lines-broken, lines-unlines, first_unbroken, first_body, broken_right, broken_change, in_row, row_end_lem}
use Rattle.edit.specs.Edits.{Made, from_row, put, put_all, pieces, cut_all, block_inserted, chunks_deleted}
use Rattle.edit.specs.Refusals.{sum}
use Rattle.edit.proofs.Blocks.{put-parts, pieces-lengths}
use Rattle.edit.proofs.Sizes.{put-length}
use Rattle.after.specs.After.{after_insert_block, after_delete_block_chunks}
use Rattle.after.proofs.Columns.{InRows, column, column_above, column_under, column_at, column_then, put_in, put-left, put_right, put-in_rows, cut_out, cut_left, cut_within, cut_right, cut_in_rows}
use Rattle.letters.proofs.Carries.{Carries, carries_then, carries_as}
use Rattle.letters.proofs.OneRow.{carries_still, carries_row}

-- ---- rows with other bodies, one for each item

module _ {A I : Type 0} (body : I → List A → List A) where
  unfoldable rebodied : List I → List (Line A) → List (Line A)
  rebodied [] rs = rs
  rebodied (x ∷ xs) [] = []
  rebodied (x ∷ xs) (r ∷ rs) = line (body x r.body) r.after ∷ rebodied xs rs

  rebodied_none : (xs : List I) → rebodied xs [] ≡ []
  unfolding rebodied
  rebodied_none [] = refl
  rebodied_none (x ∷ xs) = refl

-- what is asked of one row: the body that item x gives it, and where F w j puts column j of it
record Rebodies {A : Type 0} (lf : A → Bool) (Free : A → Type 0) (F : ℕ → ℕ → ℕ) {I : Type 0} (Good : I → Type 0) (width : I → ℕ) (body : I → List A → List A) : Type 1 where
  unbroken : (x : I) → Good x → (b : List A) → Unbroken lf b → Unbroken lf (body x b)
  letters : (x : I) → Good x → (n : ℕ) (b : List A) → Unbroken lf b → (sh : Position → Position) → ((j : ℕ) → sh (at n j) ≡ at n (F (width x) j))
      → (R S : Position → A → Type 0) → ((p : Position) (y : A) → lf y ≡ false → R p y → S (sh p) y) → ((p : Position) (y : A) → Free y → S p y)
      → Holds lf R (at n 0) b → Holds lf S (at n 0) (body x b)
  within : (x : I) → Good x → (b : List A) (j : ℕ) → j ≤ length b → F (width x) j ≤ length (body x b)

module _ {A : Type 0} (lf : A → Bool) {Free : A → Type 0} (lfs : (x : A) → lf x ≡ true → Free x) (F : ℕ → ℕ → ℕ) (sh : ℕ → List ℕ → Position → Position)
    (g : (r : ℕ) (lens : List ℕ) → InRows (sh r lens) (column F r lens)) {I : Type 0} (Good : I → Type 0) (width : I → ℕ) (body : I → List A → List A)
    (c : Rebodies lf Free F Good width body) where
  -- the first row, then those below
  then_sh : (r n : ℕ) (ns : List ℕ) (p : Position) → sh (suc r) ns (sh r (n ∷ []) p) ≡ sh r (n ∷ ns) p
  then_sh r n ns p =
      let m : ℕ = p.row.0 in
      let j : ℕ = p.col.0 in
      ap (sh (suc r) ns) ((g r (n ∷ [])).is m j) ∙ (g (suc r) ns).is m (column F r (n ∷ []) m j) ∙ ap (at m) (column_then F r n ns m j) ∙ sym ((g r (n ∷ ns)).is m j)

  one-row : (x : I) → Good x → (X : List (Line A)) (y : Line A) (Y : List (Line A)) → Broken lf (X ++ y ∷ Y)
      → Carries lf Free (sh (length X) (width x ∷ [])) (unlines (X ++ y ∷ Y)) (unlines (X ++ line (body x y.body) y.after ∷ Y))
  one-row x h X y Y b =
      carries_row lf lfs (g r (width x ∷ [])) X y.body (body x y.body) y.after Y b (c.unbroken x h y.body plain) others
      (c.letters x h r y.body plain (sh r (width x ∷ [])) (λ j. (g r (width x ∷ [])).is r j ∙ ap (at r) (here j)))
      (λ j l. rw (here j) (c.within x h y.body j l))
    where
      r : ℕ
      r = length X

      plain : Unbroken lf y.body
      plain = first_unbroken lf (broken_right lf X y Y b)

      here : (j : ℕ) → column F r (width x ∷ []) r j ≡ F (width x) j
      here j = subst (λ (m : ℕ). column F r (width x ∷ []) m j ≡ F (width x) j) (add-zero r) (column_at F r (width x ∷ []) 0 j (omega arith))

      others : (m j : ℕ) → (m ≡ r → ⊥) → column F r (width x ∷ []) m j ≡ j
      others m j n = elim (dec_le r m) [ yes l ↦ column_under F r (width x ∷ []) m j (omega arith) | no l ↦ column_above F r (width x ∷ []) m j (omega arith) ]

  carries_rows : (xs : List I) → Every Good xs → (X Y : List (Line A)) → Broken lf (X ++ Y) → Carries lf Free (sh (length X) (map width xs)) (unlines (X ++ Y)) (unlines (X ++ rebodied body xs Y))
  unfolding Every rebodied
  carries_rows [] h X Y b = carries_still lf lfs (g (length X) []) (unlines (X ++ Y)) (λ m j l. none m j)
    where
      none : (m j : ℕ) → column F (length X) [] m j ≡ j
      none m j = elim (dec_le (length X) m) [ yes l ↦ column_under F (length X) [] m j (omega arith) | no l ↦ column_above F (length X) [] m j (omega arith) ]
  carries_rows (x ∷ xs) h X [] b =
      carries_still lf lfs (g (length X) (map width (x ∷ xs))) (unlines (X ++ []))
      (λ m j l. column_above F (length X) (map width (x ∷ xs)) m j (omega (arith, rows_last lf (unlines (X ++ [])) (X ++ []) (lines-unlines lf b), ap length (append-nil X))))
  carries_rows (x ∷ xs) h X (y ∷ Y) b =
      let z : Line A = line (body x y.body) y.after in
      let n : ℕ = width x in
      let k : Broken lf ((X ++ z ∷ []) ++ Y) =
      rw (append_snoc X z Y) (broken_change lf X y Y (z ∷ Y) b (first_body lf z.body (c.unbroken x h.0 y.body (first_unbroken lf (broken_right lf X y Y b))) (broken_right lf X y Y b))) in
      let l : length (X ++ z ∷ []) ≡ suc (length X) = length-append X (z ∷ []) ∙ omega arith in
      let rest : Carries lf Free (sh (suc (length X)) (map width xs)) (unlines (X ++ z ∷ Y)) (unlines (X ++ z ∷ rebodied body xs Y)) =
      rw (← l, ← append_snoc X z Y, ← append_snoc X z (rebodied body xs Y)) (carries_rows xs h.1 (X ++ z ∷ []) Y k) in
      carries_as lf (then_sh (length X) n (map width xs)) refl (carries_then lf (one-row x h.0 X y Y b) rest)

  -- in a text, from row r on
  carries_from : (t : List A) (r : ℕ) (xs : List I) → Every Good xs → Carries lf Free (sh r (map width xs)) t (from_row (lines lf t) r (rebodied body xs (drop r (lines lf t))))
  carries_from t r xs h = elim (dec_le r (length (lines lf t))) [ yes l ↦ within_text l | no l ↦ past (omega arith) ]
    where
      L : List (Line A)
      L = lines lf t

      parts : unlines (take r L ++ drop r L) ≡ t
      parts = ap unlines (take-append-drop r L) ∙ unlines-lines lf t

      within_text : r ≤ length L → Carries lf Free (sh r (map width xs)) t (unlines (take r L ++ rebodied body xs (drop r L)))
      within_text l =
          let e : length (take r L) ≡ r = length-take-le r L l in
          subst (λ (s : List A). Carries lf Free (sh r (map width xs)) s (unlines (take r L ++ rebodied body xs (drop r L)))) parts
          (subst (λ (m : ℕ). Carries lf Free (sh m (map width xs)) (unlines (take r L ++ drop r L)) (unlines (take r L ++ rebodied body xs (drop r L)))) e
          (carries_rows xs h (take r L) (drop r L) (rw (take-append-drop r L) (lines-broken lf t))))

      past : length L < r → Carries lf Free (sh r (map width xs)) t (unlines (take r L ++ rebodied body xs (drop r L)))
      past l =
          let z : length L ≤ r = omega arith in
          let w : t ≡ unlines (take r L ++ rebodied body xs (drop r L)) = sym (rw (drop_of_length-le L z, rebodied_none body xs, append-nil (take r L), take_all r L z) (unlines-lines lf t)) in
          carries_as lf (λ p. refl) w (carries_still lf lfs (g r (map width xs)) t (λ m j k. column_above F r (map width xs) m j (omega (arith, rows_last lf t L refl))))

-- ---- parts of a row

module _ {A : Type 0} (lf : A → Bool) {Free : A → Type 0} (lfs : (x : A) → lf x ≡ true → Free x) (R S : Position → A → Type 0) (sh : Position → Position)
    (carry : (p : Position) (x : A) → lf x ≡ false → R p x → S (sh p) x) (free : (p : Position) (x : A) → Free x → S p x) (n : ℕ) (b : List A) (plain : Unbroken lf b)
    (h : Holds lf R (at n 0) b) where
  -- from column c on to column d on
  part : (c d : ℕ) (s : List A) → Unbroken lf s → ((j : ℕ) → j < length s → sh (at n (c + j)) ≡ at n (d + j)) → Holds lf R (at n c) s → Holds lf S (at n d) s
  part c d s p f =
      holds_carried lf R S sh carry (λ p x e. free p x (lfs x e)) (at n c) (at n d) s
      (λ u x r i k.
      rw (in_row lf n c s u x r p i, in_row lf n d s u x r p i)
      (f (length u) (let m : length s ≡ length (u ++ x ∷ r) = ap length i in omega (arith, length-append u (x ∷ r)))))

  front-part : (c : ℕ) → ((j : ℕ) → j < c → sh (at n j) ≡ at n j) → Holds lf S (at n 0) (take c b)
  front-part c f =
      part 0 0 (take c b) (all_take (λ x. not (lf x)) c b plain) (λ j k. rw zero-add (f j (omega (arith, length-take c b))))
      (holds_left lf R (at n 0) (take c b) (drop c b) (rw (take-append-drop c b) h))

  back_part : (c d : ℕ) → ((j : ℕ) → c ≤ j → j < length b → sh (at n j) ≡ at n (d + (j - c))) → Holds lf S (at n d) (drop c b)
  back_part c d f = elim (dec_le c (length b)) [
    | yes l ↦ (let o : at n 0 ⊕ end_of lf (take c b) ≡ at n c = row_end_lem lf n 0 (take c b) (all_take (λ x. not (lf x)) c b plain) ∙ rw (length-take-le c b l, zero-add) in
        part c d (drop c b) (all_drop (λ x. not (lf x)) c b plain)
        (λ j k. let e : d + (c + j - c) ≡ d + j = omega arith in f (c + j) (omega arith) (omega (arith, length-drop c b)) ∙ ap (at n) e)
        (subst (λ (p : Position). Holds lf R p (drop c b)) o (holds_right lf R (at n 0) (take c b) (drop c b) (rw (take-append-drop c b) h))))
    | no l ↦ (let z : length b ≤ c = omega arith in rw (drop_of_length-le b z) (holds_none lf S (at n d)))
  ]

-- ---- chunks that come in

module _ {A : Type 0} (lf : A → Bool) {Free : A → Type 0} (lfs : (x : A) → lf x ≡ true → Free x) (pad : A) (dull : T (not (lf pad))) (padded : Free pad) (c : ℕ) where
  -- a chunk has no LF, and its elements may stand anywhere
  pub Chunk : List A → Type 0
  Chunk k = Unbroken lf k × ((s : List A) (x : A) (r : List A) → k ≡ s ++ x ∷ r → Free x)

  put-row : Rebodies lf Free (put_in c) Chunk length (put pad c)
  unfolding Chunk
  put-row = record {
    unbroken = λ k h b p.
        rw (put-parts pad c k b)
        (all_append (λ x. not (lf x)) (take c b) (replicate (c - length b) pad ++ (k ++ drop c b)) (all_take (λ x. not (lf x)) c b p)
        (all_append (λ x. not (lf x)) (replicate (c - length b) pad) (k ++ drop c b) (all_replicate (λ x. not (lf x)) (c - length b) pad dull)
        (all_append (λ x. not (lf x)) k (drop c b) h.0 (all_drop (λ x. not (lf x)) c b p))));
    letters = λ k h n b p sh f R S carry free e.
        let P : List A = replicate (c - length b) pad in
        let start : at n 0 ⊕ end_of lf (take c b) ⊕ end_of lf P ≡ at n c =
        rw (row_end_lem lf n 0 (take c b) (all_take (λ x. not (lf x)) c b p), row_end_lem lf n (0 + length (take c b)) P (all_replicate (λ x. not (lf x)) (c - length b) pad dull), length-replicate (c - length b) pad, length-take c b)
        (ap (at n) (omega arith)) in
        rw (put-parts pad c k b)
        (holds_append lf S (at n 0) (take c b) (P ++ (k ++ drop c b)) (front-part lf lfs R S sh carry free n b p e c (λ j l. f j ∙ ap (at n) (put-left c (length k) j l)))
        (holds_append lf S (at n 0 ⊕ end_of lf (take c b)) P (k ++ drop c b) (holds_anywhere lf S P (λ s x r i o. free o x (replicate-only Free (c - length b) pad padded s x r i)) (at n 0 ⊕ end_of lf (take c b)))
        (rw start (holds_append lf S (at n c) k (drop c b) (holds_anywhere lf S k (λ s x r i o. free o x (h.1 s x r i)) (at n c))
        (rw (row_end_lem lf n c k h.0) (back_part lf lfs R S sh carry free n b p e c (c + length k) (λ j l m. f j ∙ ap (at n) (put_right c (length k) j l ∙ omega arith))))))));
    within = λ k h b j l.
        let n = put-length pad c k b in
        elim (dec_le c j) [ yes m ↦ rw (put_right c (length k) j m) (omega arith) | no m ↦ rw (put-left c (length k) j (omega arith)) (omega arith) ];
  }

  put-rebodied : (ks : List (List A)) (rs : List (Line A)) → put_all pad c ks rs ≡ rebodied (put pad c) ks rs
  unfolding put_all rebodied
  put-rebodied [] rs = refl
  put-rebodied (k ∷ ks) [] = refl
  put-rebodied (k ∷ ks) (r ∷ rs) = ap (◌∷◌ (line (put pad c k r.body) r.after)) (put-rebodied ks rs)

  -- the payload's pieces are such chunks
  chunks : (ns : List ℕ) (X : List A) → Unbroken lf X → ((s : List A) (x : A) (r : List A) → X ≡ s ++ x ∷ r → Free x) → Every Chunk (pieces ns X)
  unfolding Every Chunk pieces
  chunks [] X p fresh = tt
  chunks (n ∷ ns) X p fresh = (
    (all_take (λ x. not (lf x)) n X p, λ s x r i. fresh s x (r ++ drop n X) (sym (take-append-drop n X) ∙ ap (λ (l : List A). l ++ drop n X) i ∙ append_assoc s (x ∷ r) (drop n X))),
    chunks ns (drop n X) (all_drop (λ x. not (lf x)) n X p)
        (λ s x r i. fresh (take n X ++ s) x r (sym (take-append-drop n X) ∙ ap (λ (l : List A). take n X ++ l) i ∙ sym (append_assoc (take n X) s (x ∷ r)))),
  )

module _ {A : Type 0} (lf sp : A → Bool) {Free : A → Type 0} (lfs : (x : A) → lf x ≡ true → Free x) (made : Made A) (t : List A) where
  pub carries_block_insert : T (not (lf made.pad)) → Free made.pad → (q : Position) (X : List A) (ns : List ℕ) → sum ns ≤ length X → Unbroken lf X
      → ((s : List A) (x : A) (r : List A) → X ≡ s ++ x ∷ r → Free x) → Carries lf Free (λ p. after_insert_block p q ns) t (block_inserted lf sp made t q X ns).text
  unfolding block_inserted
  carries_block_insert dull padded q X ns l plain fresh =
      let c : ℕ = q.col.0 in
      let ks : List (List A) = pieces ns X in
      carries_as lf (λ p. ap (λ (l : List ℕ). after_insert_block p q l) (pieces-lengths ns X l)) (ap (from_row (lines lf t) q.row.0) (sym (put-rebodied lf lfs made.pad dull padded c ks (drop q.row.0 (lines lf t)))))
      (carries_from lf lfs (put_in c) (λ r lens p. after_insert_block p (at r c) lens) (λ r lens. put-in_rows (at r c) lens) (Chunk lf lfs made.pad dull padded c) length (put made.pad c)
      (put-row lf lfs made.pad dull padded c) t q.row.0 ks (chunks lf lfs made.pad dull padded c ns X plain fresh))

-- ---- chunks that go, with no pads

module _ {A : Type 0} (c : ℕ) where
  abbrev cut_body : ℕ → List A → List A
  cut_body w b = take c b ++ drop (c + w) b

  cut_rebodied : (ws ds : List ℕ) → ((k : ℕ) → k < length ws → get_or ds k 0 ≡ 0) → (rs : List (Line A)) → cut_all c ws ds rs ≡ rebodied cut_body ws rs
  unfolding cut_all rebodied
  cut_rebodied [] ds z rs = refl
  cut_rebodied (w ∷ ws) ds z [] = refl
  cut_rebodied (w ∷ ws) ds z (r ∷ rs) =
      let e : c - get_or ds 0 0 ≡ c = (let i = z 0 (omega arith) in omega arith) in
      rw (e, cut_rebodied ws (drop 1 ds) (λ k l. get_or-drop 1 ds k 0 ∙ ap (λ (i : ℕ). get_or ds i 0) (omega arith) ∙ z (suc k) (omega arith)) rs)

module _ {A : Type 0} (lf : A → Bool) {Free : A → Type 0} (lfs : (x : A) → lf x ≡ true → Free x) (c : ℕ) where
  cut_row : Rebodies lf Free (cut_out c) (λ (w : ℕ). Unit {0}) (λ w. w) (cut_body c)
  cut_row = record {
    unbroken = λ w h b p. all_append (λ x. not (lf x)) (take c b) (drop (c + w) b) (all_take (λ x. not (lf x)) c b p) (all_drop (λ x. not (lf x)) (c + w) b p);
    letters = λ w h n b p sh f R S carry free e.
        holds_append lf S (at n 0) (take c b) (drop (c + w) b) (front-part lf lfs R S sh carry free n b p e c (λ j l. f j ∙ ap (at n) (cut_left c w j (omega arith))))
        (elim (dec_le c (length b)) [
          | yes l ↦ rw (row_end_lem lf n 0 (take c b) (all_take (λ x. not (lf x)) c b p), length-take-le c b l, zero-add)
              (back_part lf lfs R S sh carry free n b p e (c + w) c (λ j k m. f j ∙ ap (at n) (cut_right c w j k ∙ omega arith)))
          | no l ↦ (let z : length b ≤ c + w = omega arith in rw (drop_of_length-le b z) (holds_none lf S (at n 0 ⊕ end_of lf (take c b))))
        ]);
    within = λ w h b j l.
        let n : length (take c b ++ drop (c + w) b) ≡ length (take c b) + length (drop (c + w) b) = length-append (take c b) (drop (c + w) b) in
        elim (dec_le j c) [
          | yes m ↦ rw (cut_left c w j m) (omega (arith, n, length-take c b, length-drop (c + w) b))
          | no m ↦ elim (dec_le (c + w) j) [
            | yes k ↦ rw (cut_right c w j k) (omega (arith, n, length-take c b, length-drop (c + w) b))
            | no k ↦ rw (cut_within c w j (omega arith) (omega arith)) (omega (arith, n, length-take c b, length-drop (c + w) b))
          ]
        ];
  }

all_plain : (ws : List ℕ) → Every (λ (w : ℕ). Unit {0}) ws
unfolding Every
all_plain [] = tt
all_plain (w ∷ ws) = (tt, all_plain ws)

module _ {A : Type 0} (lf sp : A → Bool) {Free : A → Type 0} (lfs : (x : A) → lf x ≡ true → Free x) (made : Made A) (t : List A) where
  pub carries_chunks : (q : Position) (ws ds : List ℕ) → ((k : ℕ) → k < length ws → get_or ds k 0 ≡ 0) → Carries lf Free (λ p. after_delete_block_chunks p q ws) t (chunks_deleted lf sp made t q ws ds).text
  unfolding chunks_deleted
  carries_chunks q ws ds z =
      let c : ℕ = q.col.0 in
      carries_as lf (λ p. ap (λ (l : List ℕ). after_delete_block_chunks p q l) (map-id ws)) (ap (from_row (lines lf t) q.row.0) (sym (cut_rebodied c ws ds z (drop q.row.0 (lines lf t)))))
      (carries_from lf lfs (cut_out c) (λ r lens p. after_delete_block_chunks p (at r c) lens) (λ r lens. cut_in_rows (at r c) lens) (λ (w : ℕ). Unit {0}) (λ w. w) (cut_body c) (cut_row lf lfs c) t q.row.0 ws (all_plain ws))
