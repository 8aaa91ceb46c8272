-- Insertions, character and line deletes and replaces: undone by their inverses, and redone.
use mathlib.Core.Path.{◌≡◌, ◌∙◌, ap, subst}
use mathlib.Core.List.{List, [], ◌++◌, append_assoc}
use mathlib.Core.Bool.{Bool, true, false, cond}
use Prim.Native.Nat.{ℕ, suc, ◌+◌, ◌-◌, ◌≤◌, min, max}
use native.Mathlib.Omega.{arith}
use borrow.Author.Tests.{le-leb}
use lib.Dec.{T, ltb, le→leb}
use lib.ListN.{length, take, drop, length-append, take-append-drop}
use lib.Seq.{slice, take-append_seam, drop-append_seam}
use Rattle.text.specs.declared.Position.{Position}
use Rattle.text.specs.Rows.{at, earlier, last_row, row_len, row_start, clamp, offset, end_of, spliced}
use Rattle.text.specs.Text.{is_lf, admissible, all}
use Rattle.text.proofs.Laws.{clamp-end, offset-end, end_take}
use Rattle.edit.specs.declared.MotionKind.TheVariants.{Char}
use Rattle.edit.specs.declared.Edit.TheVariants.{InsertStr, DeleteRange, Replace}
use Rattle.edit.specs.Edits.{Whole, whole, Edited, edited, inserted, cut_from, cut_to, chars_deleted, line_from, line_to, lines_deleted, replaced, range_deleted, edited_by}
use Rattle.edit.specs.Refusals.{small_position, small_range, small_ok, few_rows, few_ok, payload_ok, within_ok, room_ok}
use Rattle.promise.proofs.Bools.{T-both}
use Rattle.text.proofs.Alls.{all_append, all_take, all_drop}
use Rattle.edit.proofs.Accepted.{doing, full, Ok, Fine, Step, Back, ok_room, ok_short, ok_admissible, ok_both}
use Rattle.text.proofs.Spots.{offset-le, clamp-place, offset-place, end_row, end-col, start-mono, end-upto, cut_parts}

-- ---- insert, delete and replace at the end of P, in P ++ (X ++ Q)

abbrev end : List ℕ → Position
end t = end_of is_lf t

module _ (P Q : List ℕ) where
  inserted-end : (X : List ℕ) → inserted is_lf (P ++ Q) (end P) X ≡ edited (P ++ (X ++ Q)) (whole (DeleteRange (end P) (end (P ++ X)) Char) [] [] []) (end (P ++ X))
  unfolding inserted
  inserted-end X = rw (offset-end is_lf P Q, clamp-end is_lf P Q, take-append_seam, drop-append_seam)

module _ (P X Q : List ℕ) where
  offset-back : offset is_lf (P ++ (X ++ Q)) (end (P ++ X)) ≡ length (P ++ X)
  offset-back = rw (← append_assoc P X Q) (offset-end is_lf (P ++ X) Q)

  max-front : max (length P) (length (P ++ X)) ≡ length (P ++ X)
  max-front = simp length-append (omega arith)

  drop-back : drop (length (P ++ X)) (P ++ (X ++ Q)) ≡ Q
  drop-back = rw (← append_assoc P X Q) (drop-append_seam (P ++ X) Q)

  slice-mid : slice (length P) (length (P ++ X)) (P ++ (X ++ Q)) ≡ X
  slice-mid = rw (← append_assoc P X Q, take-append_seam (P ++ X) Q) (drop-append_seam P X)

  deleted_end : chars_deleted is_lf (P ++ (X ++ Q)) (end P) (end (P ++ X)) ≡ edited (P ++ Q) (whole (InsertStr (end P)) X [] []) (end P)
  unfolding chars_deleted
  deleted_end = rw (end-upto is_lf P X, offset-end is_lf P (X ++ Q), offset-back, max-front, take-append_seam P (X ++ Q), drop-back, slice-mid, clamp-end is_lf P Q)

  replaced-end : (Y : List ℕ) → replaced is_lf (P ++ (X ++ Q)) (end P) (end (P ++ X)) Y ≡ edited (P ++ (Y ++ Q)) (whole (Replace (end P) (end (P ++ Y))) X [] []) (end (P ++ Y))
  unfolding replaced
  replaced-end Y =
      rw (end-upto is_lf P X, offset-end is_lf P (X ++ Q), offset-back, max-front, take-append_seam P (X ++ Q), drop-back, slice-mid, inserted-end P Q Y, clamp-end is_lf P Q)

-- ---- those are accepted, between texts that are

pub stepped : (n : ℕ) (t : List ℕ) (w : Whole ℕ) (u : List ℕ) (i : Whole ℕ) (c : Position) → Fine n t w → doing w t ≡ edited u i c → Step n t w u i
stepped n t w u i c f q = record { fine = f; text = ap (λ (d : Edited ℕ). d.text) q; inverse = ap (λ (d : Edited ℕ). d.inverse) q }

all_none : T (all admissible [])
unfolding all
all_none = tt

-- a place at the end of a text that is no longer than an accepted one is no big number
pub small-end : (s : List ℕ) → length s ≤ 16384 → T (small_position (end s))
small-end s h = rw (le-leb (end s).row.0 1_000_000 (omega (arith, end_row is_lf s)), le-leb (end s).col.0 1_000_000 (omega (arith, end-col is_lf s))) tt

module _ (n : ℕ) (P X Q : List ℕ) (long : Ok n (P ++ (X ++ Q))) where
  lengths : length (P ++ (X ++ Q)) ≡ length P + (length X + length Q)
  lengths = simp length-append

  len' : length P + (length X + length Q) ≤ 16384
  len' = omega (arith, ok_short n (P ++ (X ++ Q)) long, lengths)

  mid_admissible : T (all admissible X)
  mid_admissible =
      subst (λ (l : List ℕ). T (all admissible l)) (take-append_seam X Q)
      (all_take admissible (length X) (X ++ Q) (subst (λ (l : List ℕ). T (all admissible l)) (drop-append_seam P (X ++ Q)) (all_drop admissible (length P) (P ++ (X ++ Q)) (ok_admissible n (P ++ (X ++ Q)) long))))

  small-P : T (small_position (end P))
  small-P = small-end P (omega (arith, len'))

  small-PX : T (small_position (end (P ++ X)))
  small-PX = small-end (P ++ X) (omega (arith, len', length-append P X))

  step-insert : Ok n (P ++ Q) → Step n (P ++ Q) (whole (InsertStr (end P)) X [] []) (P ++ (X ++ Q)) (whole (DeleteRange (end P) (end (P ++ X)) Char) [] [] [])
  unfolding edited_by small_ok few_ok payload_ok within_ok
  step-insert brief =
      stepped n (P ++ Q) (whole (InsertStr (end P)) X [] []) _ _ (end (P ++ X)) (record {
        textual = brief;
        smalls = small-P;
        fews = le→leb (length X) 16384 (omega (arith, len'));
        payloads = mid_admissible;
        withins = tt;
        rooms = rw (inserted-end P Q X) (ok_room n (P ++ (X ++ Q)) long);
      }) (inserted-end P Q X)

  step-delete : Ok n (P ++ Q) → Step n (P ++ (X ++ Q)) (whole (DeleteRange (end P) (end (P ++ X)) Char) [] [] []) (P ++ Q) (whole (InsertStr (end P)) X [] [])
  unfolding edited_by range_deleted small_ok small_range few_ok few_rows payload_ok within_ok
  step-delete brief =
      stepped n (P ++ (X ++ Q)) (whole (DeleteRange (end P) (end (P ++ X)) Char) [] [] []) _ _ (end P) (record {
        textual = long;
        smalls = T-both (small_position (end P)) (small_position (end (P ++ X))) small-P small-PX;
        fews = tt;
        payloads = tt;
        withins = tt;
        rooms = rw (deleted_end P X Q) (ok_room n (P ++ Q) brief);
      }) (deleted_end P X Q)

  step-replace : (Y : List ℕ) → T (all admissible Y) → Ok n (P ++ (Y ++ Q))
      → Step n (P ++ (X ++ Q)) (whole (Replace (end P) (end (P ++ X))) Y [] []) (P ++ (Y ++ Q)) (whole (Replace (end P) (end (P ++ Y))) X [] [])
  unfolding edited_by small_ok few_ok payload_ok within_ok
  step-replace Y k other =
      stepped n (P ++ (X ++ Q)) (whole (Replace (end P) (end (P ++ X))) Y [] []) _ _ (end (P ++ Y)) (record {
        textual = long;
        smalls = T-both (small_position (end P)) (small_position (end (P ++ X))) small-P small-PX;
        fews = le→leb (length Y) 16384 (omega (arith, ok_short n (P ++ (Y ++ Q)) other, length-append P (Y ++ Q), length-append Y Q));
        payloads = k;
        withins = tt;
        rooms = rw (replaced-end P X Q Y) (ok_room n (P ++ (Y ++ Q)) other);
      }) (replaced-end P X Q Y)

  back_insert-end : Ok n (P ++ Q) → Back n (P ++ Q) (P ++ (X ++ Q)) (whole (DeleteRange (end P) (end (P ++ X)) Char) [] [] [])
  back_insert-end brief = (_, _, step-delete brief, step-insert brief)

  back_delete_end : Ok n (P ++ Q) → Back n (P ++ (X ++ Q)) (P ++ Q) (whole (InsertStr (end P)) X [] [])
  back_delete_end brief = (_, _, step-insert brief, step-delete brief)

back_replace_end : (n : ℕ) (P X Q Y : List ℕ) → Ok n (P ++ (X ++ Q)) → Ok n (P ++ (Y ++ Q)) → Back n (P ++ (X ++ Q)) (P ++ (Y ++ Q)) (whole (Replace (end P) (end (P ++ Y))) X [] [])
back_replace_end n P X Q Y h k = (_, _, step-replace n P Y Q k X (mid_admissible n P X Q h) h, step-replace n P X Q h Y (mid_admissible n P Y Q k) k)

-- ---- the edits of the flat text

-- a text with X in place of its characters from a up to b, where it has room
ok_splice : (n : ℕ) (t : List ℕ) (a b : ℕ) (X : List ℕ) → Ok n t → T (all admissible X) → T (room_ok (full n) (spliced t a b X)) → Ok n (spliced t a b X)
ok_splice n t a b X h k r =
    ok_both n (spliced t a b X) r
    (all_append admissible (take a t) (X ++ drop b t) (all_take admissible a t (ok_admissible n t h)) (all_append admissible X (drop b t) k (all_drop admissible b t (ok_admissible n t h))))

pub line-place : (t : List ℕ) (lo hi : ℕ) → lo ≤ last_row is_lf t → clamp is_lf t (line_from is_lf t lo hi) ≡ line_from is_lf t lo hi
unfolding line_from
line-place t lo hi h = go (ltb hi (last_row is_lf t)) (ltb 0 lo)
  where
    go : (b c : Bool) → clamp is_lf t (cond b (at lo 0) (cond c (at (lo - 1) (row_len is_lf t (lo - 1))) (at 0 0))) ≡ cond b (at lo 0) (cond c (at (lo - 1) (row_len is_lf t (lo - 1))) (at 0 0))
    go true c = clamp-place is_lf t lo 0 h (omega arith)
    go false true = clamp-place is_lf t (lo - 1) (row_len is_lf t (lo - 1)) (omega arith) (omega arith)
    go false false = clamp-place is_lf t 0 0 (omega arith) (omega arith)

line-le : (t : List ℕ) (lo hi : ℕ) → lo ≤ hi → lo ≤ last_row is_lf t → offset is_lf t (line_from is_lf t lo hi) ≤ line_to is_lf t hi
unfolding line_from line_to
line-le t lo hi h k = go (ltb hi (last_row is_lf t))
  where
    go : (b : Bool) → offset is_lf t (cond b (at lo 0) (cond (ltb 0 lo) (at (lo - 1) (row_len is_lf t (lo - 1))) (at 0 0))) ≤ cond b (row_start is_lf t (suc hi)) (length t)
    go true = omega (arith, offset-place is_lf t lo 0 k (omega arith), start-mono is_lf t lo (suc hi) (omega arith))
    go false = offset-le is_lf t _

-- a Replace from a place in the text
replaced-in : (t : List ℕ) (p q : Position) (X : List ℕ) → end (take (cut_from is_lf t p q) t) ≡ earlier p q
    → replaced is_lf t p q X
    ≡ edited (spliced t (cut_from is_lf t p q) (cut_to is_lf t p q) X)
    (whole (Replace (end (take (cut_from is_lf t p q) t)) (end (take (cut_from is_lf t p q) t ++ X))) (slice (cut_from is_lf t p q) (cut_to is_lf t p q) t) [] [])
    (end (take (cut_from is_lf t p q) t ++ X))
unfolding replaced
replaced-in t p q X z =
    let P : List ℕ = take (cut_from is_lf t p q) t in
    let Q : List ℕ = drop (cut_to is_lf t p q) t in
    let i : inserted is_lf (P ++ Q) (earlier p q) X ≡ edited (P ++ (X ++ Q)) (whole (DeleteRange (end P) (end (P ++ X)) Char) [] [] []) (end (P ++ X)) =
    subst (λ (s : Position). inserted is_lf (P ++ Q) s X ≡ edited (P ++ (X ++ Q)) (whole (DeleteRange (end P) (end (P ++ X)) Char) [] [] []) (end (P ++ X))) z (inserted-end P Q X) in
    let c : clamp is_lf (P ++ Q) (earlier p q) ≡ end P = subst (λ (s : Position). clamp is_lf (P ++ Q) s ≡ end P) z (clamp-end is_lf P Q) in
    rw (i, c)

module _ (n : ℕ) (t : List ℕ) (h : Ok n t) where
  pub back_insert : (p : Position) (X : List ℕ) → T (all admissible X) → T (room_ok (full n) (inserted is_lf t p X).text) → Back n t (inserted is_lf t p X).text (inserted is_lf t p X).inverse
  unfolding inserted
  back_insert p X k r =
      let o : ℕ = offset is_lf t p in
      let e : take o t ++ drop o t ≡ t = take-append-drop o t in
      rw (← end_take is_lf t p)
      (subst (λ (u : List ℕ). Back n u (spliced t o o X) (whole (DeleteRange (end (take o t)) (end (take o t ++ X)) Char) [] [] [])) e (back_insert-end n (take o t) X (drop o t) (ok_splice n t o o X h k r) (rw e h)))

  -- a cut from a place in the text
  back_cut : (s : Position) (b : ℕ) → clamp is_lf t s ≡ s → offset is_lf t s ≤ b → T (room_ok (full n) (spliced t (offset is_lf t s) b []))
      → Back n t (spliced t (offset is_lf t s) b []) (whole (InsertStr s) (slice (offset is_lf t s) b t) [] [])
  back_cut s b i k r =
      let a : ℕ = offset is_lf t s in
      let e : take a t ++ (slice a b t ++ drop b t) ≡ t = cut_parts a b t k in
      let q : end (take a t) ≡ s = end_take is_lf t s ∙ i in
      let d : Back n (take a t ++ (slice a b t ++ drop b t)) (take a t ++ drop b t) (whole (InsertStr (end (take a t))) (slice a b t) [] []) =
      back_delete_end n (take a t) (slice a b t) (drop b t) (rw e h) (ok_splice n t a b [] h all_none r) in
      subst (λ (u : List ℕ). Back n u (take a t ++ drop b t) (whole (InsertStr s) (slice a b t) [] [])) e
      (subst (λ (p : Position). Back n (take a t ++ (slice a b t ++ drop b t)) (take a t ++ drop b t) (whole (InsertStr p) (slice a b t) [] [])) q d)

  pub back_chars : (p q : Position) → clamp is_lf t (earlier p q) ≡ earlier p q → T (room_ok (full n) (chars_deleted is_lf t p q).text)
      → Back n t (chars_deleted is_lf t p q).text (chars_deleted is_lf t p q).inverse
  unfolding chars_deleted
  back_chars p q i r = back_cut (earlier p q) (cut_to is_lf t p q) i (omega arith) r

  pub back_lines : (p q : Position) → T (room_ok (full n) (lines_deleted is_lf t p q).text) → Back n t (lines_deleted is_lf t p q).text (lines_deleted is_lf t p q).inverse
  unfolding lines_deleted
  back_lines p q r =
      let lo : ℕ = min (min p.row.0 q.row.0) (last_row is_lf t) in
      let hi : ℕ = min (max p.row.0 q.row.0) (last_row is_lf t) in
      back_cut (line_from is_lf t lo hi) (line_to is_lf t hi) (line-place t lo hi (omega arith)) (line-le t lo hi (omega arith) (omega arith)) r

  pub back_replace : (p q : Position) (X : List ℕ) → clamp is_lf t (earlier p q) ≡ earlier p q → T (all admissible X) → T (room_ok (full n) (replaced is_lf t p q X).text)
      → Back n t (replaced is_lf t p q X).text (replaced is_lf t p q X).inverse
  back_replace p q X i k r =
      let a : ℕ = cut_from is_lf t p q in
      let b : ℕ = cut_to is_lf t p q in
      let e : take a t ++ (slice a b t ++ drop b t) ≡ t = cut_parts a b t (omega arith) in
      let z : end (take a t) ≡ earlier p q = end_take is_lf t (earlier p q) ∙ i in
      let d = replaced-in t p q X z in
      rw d (subst (λ (u : List ℕ). Back n u (take a t ++ (X ++ drop b t)) (whole (Replace (end (take a t)) (end (take a t ++ X))) (slice a b t) [] [])) e
      (back_replace_end n (take a t) (slice a b t) (drop b t) X (rw e h) (ok_splice n t a b X h k (subst (λ (d : Edited ℕ). T (room_ok (full n) d.text)) d r))))
