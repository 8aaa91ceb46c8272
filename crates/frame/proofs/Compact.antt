-- The inverse of each kind of edit, with all that a line asks of it.
use mathlib.Core.Path.{◌≡◌, refl, sym, subst, ◌∙◌}
use mathlib.Core.Bool.{Bool, true, false, cond}
use mathlib.Core.List.{List, [], ◌++◌, map, flatten}
use Prim.Native.Nat.{ℕ, suc, ◌≤◌, min, max}
use native.Mathlib.Omega.{arith}
use borrow.Author.Tests.{eq-eqb}
use lib.Dec.{T, leb, leb→le, lt→ltb}
use lib.ListN.{length, take, drop, get_or, length-append, length-take, length-drop}
use lib.Seq.{slice}
use Rattle.promise.proofs.Bools.{T-both, T-left, T-right}
use Rattle.text.specs.declared.Position.{Position}
use Rattle.text.specs.Rows.{line, lines, upto, earlier, last_row, clamp, offset, end_of, spliced}
use Rattle.text.specs.Text.{is_lf, admissible, all}
use Rattle.text.proofs.Laws.{end_take, last_le}
use Rattle.text.proofs.Alls.{all_take, all_drop, all_weaker}
use Rattle.text.proofs.Broken.{body_within}
use Rattle.edit.specs.declared.MotionKind.TheVariants.{Char}
use Rattle.edit.specs.declared.Edit.{Edit}
use Rattle.edit.specs.declared.Edit.TheVariants.{InsertStr, DeleteRange, JoinLines, Replace}
use Rattle.edit.specs.Edits.{Whole, whole, row_at, any_flag, cut_from, cut_to, inserted, chars_deleted, line_from, line_to, lines_deleted, replaced, join_row, join_cols, join_flags, joined, split, pads_of, pieces, chunks_of, block_inserted, chunks_deleted}
use Rattle.edit.specs.Refusals.{is_space, spaces, sum, small, small_position}
use Rattle.edit.proofs.Flats.{small-end, line-place}
use Rattle.edit.proofs.Joins.{join_cols-length, join_flags-length, join_cols-small, join_flags-all}
use Rattle.edit.proofs.Blocks.{pads_of-length, pads_of-small, pieces-length, chunks_le, chunks_all, sum-lengths, lengths_small}
use Rattle.frame.specs.Format.{edit, has_bytes, edit_chars}
use Rattle.frame.specs.Theorems.{first_used, second_used, used_of, word, word_position, word_edit}

pub record Compact (w : Whole ℕ) : Type 0 where
  pub formed : T (has_bytes w.edit w.payload w.first w.second)
  pub good : T (all admissible w.payload)
  pub brief : length w.payload ≤ 4_096
  pub number : T (word_edit w.edit)
  pub firsts : T (all word w.first)
  pub seconds : T (all word w.second)
  pub used : used_of (edit w) ≡ edit w

-- ---- numbers that are not too big are words

word-upto : (n : ℕ) → n ≤ 1_000_000 → T (word n)
word-upto n h = lt→ltb n 4_294_967_296 (omega arith)

small_word : (n : ℕ) → T (small n) → T (word n)
small_word n h = word-upto n (leb→le n 1_000_000 h)

small-words : (xs : List ℕ) → T (all small xs) → T (all word xs)
small-words = all_weaker small word small_word

small-place : (p : Position) → T (small_position p) → T (word_position p)
small-place p h =
    T-both (word p.row.0) (word p.col.0) (small_word p.row.0 (T-left (small p.row.0) (small p.col.0) h)) (small_word p.col.0 (T-right (small p.row.0) (small p.col.0) h))

no_words : T (all word [])
unfolding all
no_words = tt

no_chars : T (all admissible [])
unfolding all
no_chars = tt

-- ---- places in a text

end-word : (t : List ℕ) → length t ≤ 16_384 → T (word_position (end_of is_lf t))
end-word t h = small-place (end_of is_lf t) (small-end t h)

clamp-word : (t : List ℕ) (p : Position) → length t ≤ 16_384 → T (word_position (clamp is_lf t p))
clamp-word t p h = rw (← end_take is_lf t p) (end-word (take (offset is_lf t p) t) (omega (arith, length-take (offset is_lf t p) t)))

earlier_word : (p q : Position) → T (small_position p) → T (small_position q) → T (word_position (earlier p q))
earlier_word p q h k = go (upto p q)
  where
    go : (b : Bool) → T (word_position (cond b p q))
    go true = small-place p h
    go false = small-place q k

-- ---- kind by kind

-- an edit without lists
no_lists : (e : Edit) (x : List ℕ) → T (has_bytes e x [] []) → T (all admissible x) → length x ≤ 4_096 → T (word_edit e) → used_of (edit (whole e x [] [])) ≡ edit (whole e x [] []) → Compact (whole e x [] [])
no_lists e x h g b n u = record { formed = h; good = g; brief = b; number = n; firsts = no_words; seconds = no_words; used = u }

module _ (t : List ℕ) (short : length t ≤ 4_096) where
  pub inverse_insert : (p : Position) (x : List ℕ) → length (inserted is_lf t p x).text ≤ 16_384 → Compact (inserted is_lf t p x).inverse
  unfolding inserted has_bytes word_edit used_of edit_chars first_used second_used
  inverse_insert p x h =
      let o : ℕ = offset is_lf t p in
      let z : Position = end_of is_lf (take o t ++ x) in
      no_lists (DeleteRange (clamp is_lf t p) z Char) [] tt no_chars (omega arith)
      (T-both (word_position (clamp is_lf t p)) (word_position z) (clamp-word t p (omega arith)) (end-word (take o t ++ x) (omega (arith, length-append (take o t) (x ++ drop o t), length-append x (drop o t), length-append (take o t) x)))) refl

  module _ (good : T (all admissible t)) where
    -- a part of the text as the payload
    part-good : (a b : ℕ) → T (all admissible (slice a b t))
    part-good a b = all_drop admissible a (take b t) (all_take admissible b t good)

    part-brief : (a b : ℕ) → length (slice a b t) ≤ 4_096
    part-brief a b = omega (arith, length-drop a (take b t), length-take b t)

    part-back : (s : Position) (a b : ℕ) → T (word_position s) → Compact (whole (InsertStr s) (slice a b t) [] [])
    unfolding has_bytes word_edit used_of edit_chars first_used second_used
    part-back s a b h = no_lists (InsertStr s) (slice a b t) tt (part-good a b) (part-brief a b) h refl

    pub inverse_chars : (p q : Position) → T (small_position p) → T (small_position q) → Compact (chars_deleted is_lf t p q).inverse
    unfolding chars_deleted
    inverse_chars p q h k = part-back (earlier p q) (cut_from is_lf t p q) (cut_to is_lf t p q) (earlier_word p q h k)

    pub inverse_lines : (p q : Position) → Compact (lines_deleted is_lf t p q).inverse
    unfolding lines_deleted
    inverse_lines p q =
        let lo : ℕ = min (min p.row.0 q.row.0) (last_row is_lf t) in
        let hi : ℕ = min (max p.row.0 q.row.0) (last_row is_lf t) in
        let s = line_from is_lf t lo hi in
        part-back s (offset is_lf t s) (line_to is_lf t hi) (subst (λ (z : Position). T (word_position z)) (line-place t lo hi (omega arith)) (clamp-word t s (omega arith)))

    pub inverse_replace : (p q : Position) (x : List ℕ) → length (replaced is_lf t p q x).text ≤ 16_384 → Compact (replaced is_lf t p q x).inverse
    unfolding replaced inserted has_bytes word_edit used_of edit_chars first_used second_used
    inverse_replace p q x h =
        let a : ℕ = cut_from is_lf t p q in
        let b : ℕ = cut_to is_lf t p q in
        let u : List ℕ = spliced t a b [] in
        let c : Position = clamp is_lf u (earlier p q) in
        let o : ℕ = offset is_lf u (earlier p q) in
        let z : Position = end_of is_lf (take o u ++ x) in
        no_lists (Replace c z) (slice a b t) tt (part-good a b) (part-brief a b)
        (T-both (word_position c) (word_position z) (clamp-word u (earlier p q) (omega (arith, length-append (take a t) (drop b t), length-take a t, length-drop b t)))
        (end-word (take o u ++ x) (omega (arith, length-append (take o u) (x ++ drop o u), length-append x (drop o u), length-append (take o u) x)))) refl

    pub inverse_chunks : (p : Position) (ws ds : List ℕ) → T (small_position p) → Compact (chunks_deleted is_lf is_space spaces t p ws ds).inverse
    unfolding chunks_deleted has_bytes word_edit used_of edit_chars first_used second_used
    inverse_chunks p ws ds h =
        let ks = chunks_of p.col.0 ws (drop p.row.0 (lines is_lf t)) in
        let n : length (flatten ks) ≤ length t = chunks_le t p.col.0 p.row.0 ws in
        record {
          formed = rw (eq-eqb (sum (map length ks)) (length (flatten ks)) (sum-lengths ks)) tt;
          good = chunks_all admissible t p.col.0 p.row.0 ws good;
          brief = omega arith;
          number = small-place p h;
          firsts = small-words (map length ks) (lengths_small ks (omega arith));
          seconds = no_words;
          used = refl;
        }

  pub inverse_block : (p : Position) (x ns : List ℕ) → T (small_position p) → T (all small ns) → Compact (block_inserted is_lf is_space spaces t p x ns).inverse
  unfolding block_inserted has_bytes word_edit used_of edit_chars first_used second_used
  inverse_block p x ns h k =
      let ks = pieces ns x in
      let rs = drop p.row.0 (lines is_lf t) in
      let ds = pads_of p.col.0 ks rs in
      record {
        formed = rw (eq-eqb (length ns) (length ds) (sym (pads_of-length p.col.0 ks rs ∙ pieces-length ns x))) tt;
        good = no_chars;
        brief = omega arith;
        number = small-place p h;
        firsts = small-words ns k;
        seconds = small-words ds (pads_of-small p.col.0 ks rs (leb→le p.col.0 1_000_000 (T-right (small p.row.0) (small p.col.0) h)));
        used = refl;
      }

  row_word : (r : ℕ) → T (word (min r (last_row is_lf t)))
  row_word r = word-upto (min r (last_row is_lf t)) (omega (arith, last_le is_lf t))

  pub inverse_split : (r : ℕ) (cs fs : List ℕ) → length cs ≤ 256 → Compact (split is_lf is_space spaces t r cs fs).inverse
  unfolding split has_bytes word_edit used_of edit_chars first_used second_used
  inverse_split r cs fs h =
      let m : ℕ = min r (last_row is_lf t) in
      no_lists (JoinLines (row_at m) (length cs) (any_flag fs)) [] tt no_chars (omega arith) (T-both (word m) (word (length cs)) (row_word r) (word-upto (length cs) (omega arith))) refl

  pub inverse_join : (r n : ℕ) (b : Bool) → length (joined is_lf is_space spaces t r n b).text ≤ 16_384 → Compact (joined is_lf is_space spaces t r n b).inverse
  unfolding joined has_bytes word_edit used_of edit_chars first_used second_used
  inverse_join r n b h =
      let m : ℕ = min r (last_row is_lf t) in
      let x = get_or (lines is_lf t) m (line [] []) in
      let below = drop (suc m) (lines is_lf t) in
      let ys = take (max n 1) below in
      let z = join_row 32 b x ys in
      let cols = join_cols 32 b x ys in
      let flags = join_flags 32 b x ys in
      record {
        formed = rw (eq-eqb (length cols) (length flags) (join_cols-length b x ys ∙ sym (join_flags-length b x ys))) (join_flags-all (λ f. leb f 1) tt tt b x ys);
        good = no_chars;
        brief = omega arith;
        number = row_word r;
        firsts = small-words cols (join_cols-small b x ys (omega (arith, body_within (take m (lines is_lf t)) z (drop (max n 1) below))));
        seconds = join_flags-all word tt tt b x ys;
        used = refl;
      }
