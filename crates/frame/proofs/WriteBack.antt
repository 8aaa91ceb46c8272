-- A frame that was read from some bytes, written: the same bytes.
use mathlib.Core.Path.{◌≡◌, refl, sym, ap, ◌∙◌}
use mathlib.Core.Bool.{Bool, true, false, cond, ◌&&◌}
use mathlib.Core.List.{List, [], ◌∷◌, ◌++◌, map, flatten}
use Prim.Native.Nat.{ℕ, zero, suc, ◌+◌, ◌-◌, ◌%◌, ◌≤◌, ◌<◌}
use native.Mathlib.Omega.{arith}
use borrow.Author.Tests.{eqb-true, leb-true, eq-eqb}
use lib.Dec.{leb, eqb}
use lib.ListN.{length, drop, get_or, length-drop, drop_of_length-le}
use lib.Seq.{drop-cons}
use Rattle.promise.specs.Paper.{done}
use Rattle.promise.proofs.Bools.{both, both_true}
use Rattle.utf8.specs.Reading.{all_scalar, writing}
use Rattle.utf8.proofs.Parts.{writing-flatten}
use Rattle.text.specs.Text.{all}
use Rattle.edit.specs.declared.MotionKind.{MotionKind}
use Rattle.edit.specs.declared.MotionKind.TheVariants.{Char, Line, Block}
use Rattle.edit.specs.declared.Edit.{Edit}
use Rattle.edit.specs.declared.Edit.TheVariants.{DeleteRange, JoinLines, SplitLines, Replace, DeleteBlockChunks}
use Rattle.edit.specs.Edits.{whole, pieces, row_at}
use Rattle.edit.proofs.Blocks.{pieces-flatten, sum-lengths}
use Rattle.select.specs.Sels.{sel}
use Rattle.hexline.specs.Theorems.{Bytes}
use Rattle.frame.specs.Numbers.{number, position, number_in, position_in}
use Rattle.frame.specs.Format.{Frame, kind_byte, flag_byte, chunk_bytes, edit_bytes, frame_bytes, has_bytes, has_frame, edit_chars, frame_chars}
use Rattle.frame.specs.Format as format
use Rattle.frame.specs.Forms.{Form, malformed, text, mark, edit, plain, mark_form, insert_form, kind_form, delete_form, join_form, columns_in, flags_in, flagged, split_form, replace_form, Cut, broken, cut, strings_in, block_of, block_form, widths_in, pads_in, chunks_form, form_by, form_of}
use Rattle.frame.specs.Reads.{Contents, chars, bad_from, contents, first_list, text_of, edit_of, read_form}
use Rattle.frame.proofs.RoundNumbers.{bytes_drop, number_at}
use Rattle.frame.proofs.RoundItems.{columns-flags, columns-written, widths_pads, widths_written}
use Rattle.frame.proofs.RoundStrings.{one-flat, contents-written, chunks_written}

-- f has a frame, of scalars, and these are its bytes
abbrev pub Wrote : List ℕ → Frame → Type 0
Wrote b f = (has_frame f ≡ true) × (all_scalar (frame_chars f) ≡ true) × (frame_bytes f ≡ b)

-- whatever is read from a form
abbrev Ends : List ℕ → Form → Type 0
Ends b m = (f : Frame) → read_form m ≡ done f → Wrote b f

either_form : (b : List ℕ) (t : Bool) (m n : Form) → (t ≡ true → Ends b m) → (t ≡ false → Ends b n) → Ends b (cond t m n)
either_form b true m n p q = p refl
either_form b false m n p q = q refl

bad_form : (b : List ℕ) → Ends b malformed
unfolding read_form
bad_form b f e = let z : ◌≡◌ {A = ℕ} 0 1 = cc in absurd (omega arith)

-- a form of which a test is asked
tested : (b : List ℕ) (t : Bool) (m : Form) → (t ≡ true → Ends b m) → Ends b (cond t m malformed)
tested b t m p = either_form b t m malformed p (λ _. bad_form b)

edit_ends : (b : List ℕ) (e : Edit) (at : ℕ) (ks : List (List ℕ)) (f s : List ℕ)
    → ((xs : List (List ℕ)) → map writing xs ≡ ks → all_scalar (flatten xs) ≡ true → Wrote b (format.edit (whole e (flatten xs) (first_list e xs f) s)))
    → Ends b (edit e at ks f s)
unfolding read_form edit_of
edit_ends b e at ks f s w g r = go (contents at ks) refl r
  where
    go : (c : Contents) → contents at ks ≡ c → edit_of e f s c ≡ done g → Wrote b g
    go (chars xs) q r =
        let h = contents-written at ks xs q in
        let i : format.edit (whole e (flatten xs) (first_list e xs f) s) ≡ g = cc in
        rw (← i) (w xs h.0 h.1)
    go (bad_from k) q r = let z : ◌≡◌ {A = ℕ} 0 1 = cc in absurd (omega arith)

text-ends : (b : List ℕ) (s : List ℕ) → ((xs : List (List ℕ)) → map writing xs ≡ s ∷ [] → all_scalar (flatten xs) ≡ true → Wrote b (format.text (flatten xs))) → Ends b (text s)
unfolding read_form text_of
text-ends b s w g r = go (contents 1 (s ∷ [])) refl r
  where
    go : (c : Contents) → contents 1 (s ∷ []) ≡ c → text_of c ≡ done g → Wrote b g
    go (chars xs) q r =
        let h = contents-written 1 (s ∷ []) xs q in
        let i : format.text (flatten xs) ≡ g = cc in
        rw (← i) (w xs h.0 h.1)
    go (bad_from k) q r = let z : ◌≡◌ {A = ℕ} 0 1 = cc in absurd (omega arith)

none_ends : (b : List ℕ) (e : Edit) (f s : List ℕ) → Wrote b (format.edit (whole e [] (first_list e [] f) s)) → Ends b (edit e 0 [] f s)
unfolding read_form edit_of contents flatten
none_ends b e f s w g r = let i : format.edit (whole e [] (first_list e [] f) s) ≡ g = cc in rw (← i) w

-- ---- bytes in parts

one_written : (xs : List (List ℕ)) (t : List ℕ) → map writing xs ≡ t ∷ [] → writing (flatten xs) ≡ t
one_written xs t e = writing-flatten xs ∙ ap flatten e ∙ one-flat t

first_byte : (b : List ℕ) (k : ℕ) (t : List ℕ) → 0 < k → get_or b 0 0 ≡ k → t ≡ drop 1 b → k ∷ t ≡ b
first_byte [] k t h e d = absurd (omega arith)
first_byte (x ∷ s) k t h e d = rw (d, ← e)

flag_back : (n : ℕ) → n ≤ 1 → flag_byte (eqb n 1) ≡ n
flag_back zero h = refl
flag_back (suc zero) h = refl
flag_back (suc (suc n)) h = absurd (omega arith)

module _ (b : List ℕ) (w : Bytes b) where
  position_at : (i : ℕ) → i + 8 ≤ length b → position (position_in b i) ++ drop (i + 8) b ≡ drop i b
  position_at i h =
      let q : i + 8 ≡ i + 4 + 4 = omega arith in
      rw (q, number_at b (i + 4) w (omega arith)) (number_at b i w (omega arith))

  nothing_left : (i : ℕ) → length b ≡ i → drop i b ≡ []
  nothing_left i e = drop_of_length-le b {i = i} (omega arith)

  -- ---- each kind

  text-back : get_or b 0 0 ≡ 0x01 → Ends b (text (drop 1 b))
  unfolding has_frame frame_chars frame_bytes
  text-back k = text-ends b (drop 1 b) (λ xs e a. (refl, a, first_byte b 0x01 _ (omega arith) k (one_written xs (drop 1 b) e)))

  mark_back_lem : get_or b 0 0 ≡ 0x02 → Ends b (mark_form b)
  unfolding mark_form read_form has_frame frame_chars frame_bytes all_scalar
  mark_back_lem k = tested b (eqb (length b) 17) _ go
    where
      go : eqb (length b) 17 ≡ true → Ends b (mark (sel (position_in b 1) (position_in b 9)))
      go t f r =
          let l = eqb-true (length b) 17 t in
          let i : format.mark (sel (position_in b 1) (position_in b 9)) ≡ f = cc in
          let d : position (position_in b 9) ≡ drop 9 b = ap (◌++◌ (position (position_in b 9))) (sym (nothing_left 17 l)) ∙ position_at 9 (omega arith) in
          rw (← i) (refl, refl, first_byte b 0x02 _ (omega arith) k (ap (◌++◌ (position (position_in b 1))) d ∙ position_at 1 (omega arith)))

  insert-back : get_or b 0 0 ≡ 0x10 → Ends b (insert_form b)
  unfolding insert_form has_frame has_bytes frame_chars edit_chars frame_bytes edit_bytes
  insert-back k =
      tested b (leb 9 (length b)) _ (λ t. edit_ends b _ 9 _ [] [] (λ xs e a.
      let d = ap (◌++◌ (position (position_in b 1))) (one_written xs (drop 9 b) e) ∙ position_at 1 (leb-true 9 (length b) t) in
      (refl, a, first_byte b 0x10 _ (omega arith) k d)))

  range_back : (k : MotionKind) → get_or b 0 0 ≡ 0x11 → get_or b 1 0 ≡ kind_byte k → length b ≡ 18 → Ends b (plain (DeleteRange (position_in b 2) (position_in b 10) k))
  unfolding has_frame has_bytes frame_chars edit_chars frame_bytes edit_bytes first_list all_scalar
  range_back k e f l =
      let p = position_in b 2 in
      let q = position_in b 10 in
      let d : position q ≡ drop 10 b = ap (◌++◌ (position q)) (sym (nothing_left 18 l)) ∙ position_at 10 (omega arith) in
      let c : position p ++ position q ≡ drop 2 b = ap (◌++◌ (position p)) d ∙ position_at 2 (omega arith) in
      let a : kind_byte k ∷ (position p ++ position q) ≡ drop 1 b = rw (← f, c) (sym (drop-cons b 1 0 (omega arith))) in
      none_ends b (DeleteRange p q k) [] [] (refl, refl, first_byte b 0x11 _ (omega arith) e a)

  delete_back : get_or b 0 0 ≡ 0x11 → Ends b (delete_form b)
  unfolding delete_form kind_form
  delete_back e =
      tested b (eqb (length b) 18) _ (λ t.
      let l = eqb-true (length b) 18 t in
      either_form b (eqb (get_or b 1 0) 0) _ _ (λ k. range_back Char e (eqb-true _ 0 k) l) (λ _.
      either_form b (eqb (get_or b 1 0) 1) _ _ (λ k. range_back Line e (eqb-true _ 1 k) l) (λ _.
      tested b (eqb (get_or b 1 0) 2) _ (λ k. range_back Block e (eqb-true _ 2 k) l))))

  join-back : get_or b 0 0 ≡ 0x12 → Ends b (join_form b)
  unfolding join_form has_frame has_bytes frame_chars edit_chars frame_bytes edit_bytes first_list all_scalar
  join-back e = tested b (eqb (length b) 10 && leb (get_or b 9 0) 1) _ go
    where
      go : (eqb (length b) 10 && leb (get_or b 9 0) 1) ≡ true → Ends b (plain (JoinLines (row_at (number_in b 1)) (number_in b 5) (eqb (get_or b 9 0) 1)))
      go t =
          let v = both (eqb (length b) 10) (leb (get_or b 9 0) 1) t in
          let l = eqb-true (length b) 10 v.0 in
          let d : flag_byte (eqb (get_or b 9 0) 1) ∷ [] ≡ drop 9 b =
          rw (flag_back (get_or b 9 0) (leb-true (get_or b 9 0) 1 v.1), ← nothing_left 10 l) (sym (drop-cons b 9 0 (omega arith))) in
          let c : number (number_in b 5) ++ (flag_byte (eqb (get_or b 9 0) 1) ∷ []) ≡ drop 5 b = ap (◌++◌ (number (number_in b 5))) d ∙ number_at b 5 w (omega arith) in
          none_ends b _ [] [] (refl, refl, first_byte b 0x12 _ (omega arith) e (ap (◌++◌ (number (number_in b 1))) c ∙ number_at b 1 w (omega arith)))

  split-back : get_or b 0 0 ≡ 0x13 → Ends b (split_form b)
  unfolding split_form flagged has_frame has_bytes frame_chars edit_chars frame_bytes edit_bytes first_list all_scalar
  split-back e = tested b (leb 5 (length b) && flagged (drop 5 b)) _ go
    where
      t : List ℕ
      t = drop 5 b

      go : (leb 5 (length b) && flagged t) ≡ true → Ends b (edit (SplitLines (row_at (number_in b 1))) 0 [] (columns_in t) (flags_in t))
      go q =
          let u = both (leb 5 (length b)) (flagged t) q in
          let v = both (eqb (length t % 5) 0) (all (λ b. leb b 1) (flags_in t)) u.1 in
          let c = columns-written t (bytes_drop 5 b w) (eqb-true (length t % 5) 0 v.0) in
          let d = ap (◌++◌ (number (number_in b 1))) c ∙ number_at b 1 w (leb-true 5 (length b) u.0) in
          none_ends b _ (columns_in t) (flags_in t) (both_true (eq-eqb _ _ (columns-flags t)) v.1, refl, first_byte b 0x13 _ (omega arith) e d)

  replace_back : get_or b 0 0 ≡ 0x14 → Ends b (replace_form b)
  unfolding replace_form has_frame has_bytes frame_chars edit_chars frame_bytes edit_bytes
  replace_back k = tested b (leb 17 (length b)) _ go
    where
      go : leb 17 (length b) ≡ true → Ends b (edit (Replace (position_in b 1) (position_in b 9)) 17 (drop 17 b ∷ []) [] [])
      go t = edit_ends b _ 17 _ [] [] (λ xs e a.
          let l = leb-true 17 (length b) t in
          let d = ap (◌++◌ (position (position_in b 9))) (one_written xs (drop 17 b) e) ∙ position_at 9 (omega arith) in
          (refl, a, first_byte b 0x14 _ (omega arith) k (ap (◌++◌ (position (position_in b 1))) d ∙ position_at 1 (omega arith))))

  block_back : get_or b 0 0 ≡ 0x15 → Ends b (block_form b)
  unfolding block_form block_of has_frame has_bytes frame_chars edit_chars frame_bytes edit_bytes first_list
  block_back k = tested b (leb 9 (length b)) _ (λ t. go t (strings_in (drop 9 b)) refl)
    where
      go : leb 9 (length b) ≡ true → (c : Cut) → strings_in (drop 9 b) ≡ c → Ends b (block_of (position_in b 1) c)
      go t broken q = bad_form b
      go t (cut ks) q = edit_ends b _ 13 ks [] [] (λ xs e a.
          let d : chunk_bytes (pieces (map length xs) (flatten xs)) ≡ drop 9 b = ap chunk_bytes (pieces-flatten xs) ∙ chunks_written (drop 9 b) ks xs (bytes_drop 9 b w) q e in
          (eq-eqb _ _ (sum-lengths xs), a, first_byte b 0x15 _ (omega arith) k (ap (◌++◌ (position (position_in b 1))) d ∙ position_at 1 (leb-true 9 (length b) t))))

  chunks_back : get_or b 0 0 ≡ 0x16 → Ends b (chunks_form b)
  unfolding chunks_form has_frame has_bytes frame_chars edit_chars frame_bytes edit_bytes first_list all_scalar
  chunks_back e = tested b (leb 9 (length b) && eqb ((length b - 9) % 8) 0) _ go
    where
      t : List ℕ
      t = drop 9 b

      go : (leb 9 (length b) && eqb ((length b - 9) % 8) 0) ≡ true → Ends b (edit (DeleteBlockChunks (position_in b 1)) 0 [] (widths_in t) (pads_in t))
      go q =
          let u = both (leb 9 (length b)) (eqb ((length b - 9) % 8) 0) q in
          let m : length t % 8 ≡ 0 = rw (length-drop 9 b) (eqb-true ((length b - 9) % 8) 0 u.1) in
          let c = widths_written t (bytes_drop 9 b w) m in
          let d = ap (◌++◌ (position (position_in b 1))) c ∙ position_at 1 (leb-true 9 (length b) u.0) in
          none_ends b _ (widths_in t) (pads_in t) (eq-eqb _ _ (widths_pads t), refl, first_byte b 0x16 _ (omega arith) e d)

  -- ---- all kinds

  pub frame_written : Ends b (form_of b)
  unfolding form_by
  frame_written =
      let k = get_or b 0 0 in
      either_form b (eqb k 0x01) _ _ (λ e. text-back (eqb-true k 0x01 e)) (λ _.
      either_form b (eqb k 0x02) _ _ (λ e. mark_back_lem (eqb-true k 0x02 e)) (λ _.
      either_form b (eqb k 0x10) _ _ (λ e. insert-back (eqb-true k 0x10 e)) (λ _.
      either_form b (eqb k 0x11) _ _ (λ e. delete_back (eqb-true k 0x11 e)) (λ _.
      either_form b (eqb k 0x12) _ _ (λ e. join-back (eqb-true k 0x12 e)) (λ _.
      either_form b (eqb k 0x13) _ _ (λ e. split-back (eqb-true k 0x13 e)) (λ _.
      either_form b (eqb k 0x14) _ _ (λ e. replace_back (eqb-true k 0x14 e)) (λ _.
      either_form b (eqb k 0x15) _ _ (λ e. block_back (eqb-true k 0x15 e)) (λ _.
      tested b (eqb k 0x16) _ (λ e. chunks_back (eqb-true k 0x16 e))))))))))
