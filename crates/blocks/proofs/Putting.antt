-- The loop of a block insert: what is still to be put into the present text gives what the whole gives on the first text.
use mathlib.Core.Path.{◌≡◌, refl, sym, ◌∙◌, ap, ap₂, subst}
use mathlib.Core.List.{List, [], ◌∷◌, ◌++◌}
use Prim.Native.Nat.{ℕ, suc, ◌+◌, ◌-◌, ◌≤◌, ◌<◌}
use native.Mathlib.Nat.{add-zero, sub-zero}
use native.Mathlib.Omega.{arith}
use lib.ListN.{length, take, drop, get_or, set, replicate, length-append, length-take, length-drop, length-replicate, length-set, drop_of_length-le, take-append-drop}
use lib.Seq.{drop-drop, length-take-le}
use Rattle.promise.proofs.Lists.{next}
use Rattle.text.specs.Rows.{lines, at, row_count, last_row, row_start, row_end, offset, spliced}
use Rattle.text.specs.Text.{is_lf, renewed}
use Rattle.text.proofs.Laws.{unlines-lines, count_last}
use Rattle.text.proofs.Alls.{all_take, all_drop}
use Rattle.text.proofs.Ended.{not_lf, Plain}
use Rattle.text.proofs.Spots.{offset-le}
use Rattle.text.proofs.Renewed.{renewed-same, renewed-text, renewed-length, renewed-twice}
use Rattle.utf8.proofs.Stores.{stored_more, stored-rest, stored-end}
use Rattle.splice.specs.Splice.{gap_opened}
use Rattle.edit.specs.Edits.{put_all, pads_of, pieces, block_inserted}
use Rattle.edit.specs.Refusals.{sum}
use Rattle.edit.proofs.Sizes.{block_inserted-length}
use Rattle.blocks.specs.declared.Put.{Put}
use Rattle.blocks.specs.Blocks.{put_at, Left, left, left_by}
use Rattle.blocks.proofs.Starts.{Begins, begins-first, end-within}
use Rattle.blocks.proofs.Puts.{inserted, pads_length, pad_at, put-text, put-pads, put_count, put-start}

pub record Putting (b₀ : List ℕ) (used r c : ℕ) (x ns q₀ b q : List ℕ) (long start from k : ℕ) : Type 0 where
  pub within : k ≤ length ns
  pub grown : used ≤ long
  pub fits : long ≤ length b
  pub size : length b ≡ length b₀
  pub stores : length q ≡ length q₀
  pub left : from + sum (drop k ns) ≤ length x
  pub kept : b ≡ renewed b₀ used (take long b)
  pub rows : row_count is_lf (take long b) ≡ row_count is_lf (take used b₀)
  pub begins : Begins (take long b) r (length ns) k start
  pub text : (inserted (take long b) (r + k) c (drop from x) (drop k ns)).text ≡ (inserted (take used b₀) r c x ns).text
  pub pads : q ≡ take k (inserted (take used b₀) r c x ns).inverse.second ++ drop k q₀
  pub rest : drop k (inserted (take used b₀) r c x ns).inverse.second ≡ (inserted (take long b) (r + k) c (drop from x) (drop k ns)).inverse.second

-- ---- at the start

pub putting_none : (b₀ : List ℕ) (used r c : ℕ) (x ns q₀ : List ℕ) (start : ℕ) → used ≤ length b₀ → sum ns ≤ length x → start ≡ row_start is_lf (take used b₀) r
    → Putting b₀ used r c x ns q₀ b₀ q₀ used start 0 0
putting_none b₀ used r c x ns q₀ start h s e = record {
  within = omega arith;
  grown = omega arith;
  fits = h;
  size = refl;
  stores = refl;
  left = omega arith;
  kept = renewed-same b₀ used h;
  rows = refl;
  begins = begins-first (take used b₀) r (length ns) start e;
  text = rw add-zero;
  pads = refl;
  rest = rw add-zero;
}

-- ---- a turn

module _ (b₀ : List ℕ) (used r c : ℕ) (x ns q₀ b q : List ℕ) (long start from k : ℕ) (s : Putting b₀ used r c x ns q₀ b q long start from k) (h : k < length ns) where
  abbrev u : List ℕ
  u = take long b

  abbrev n : ℕ
  n = get_or ns k 0

  abbrev pad : ℕ
  pad = pad_at u (r + k) c

  abbrev chunk : List ℕ
  chunk = take n (drop from x)

  abbrev v : List ℕ
  v = spliced u (offset is_lf u (at (r + k) c)) (offset is_lf u (at (r + k) c)) (replicate pad 32 ++ chunk)

  left-next : from + (n + sum (drop (k + 1) ns)) ≤ length x
  unfolding sum
  left-next = rw (next ns k h) at s.left

  pub chunk_length : length chunk ≡ n
  chunk_length = omega (arith, length-take n (drop from x), length-drop from x, left-next)

  pub chunk_within : from + n ≤ length x
  chunk_within = omega (arith, left-next)

  v_length : length v ≡ long + (pad + n)
  v_length =
      let o = offset is_lf u (at (r + k) c) in
      let g = replicate pad 32 ++ chunk in
      omega (arith, length-append (take o u) (g ++ drop o u), length-append g (drop o u), length-take o u, length-drop o u, offset-le is_lf u (at (r + k) c), length-append (replicate pad 32) chunk, length-replicate {A = ℕ} pad 32, chunk_length, length-take-le long b s.fits)

  module _ (l : r + k ≤ last_row is_lf u) (p : Plain x) where
    text-next : (inserted v (r + (k + 1)) c (drop (from + n) x) (drop (k + 1) ns)).text ≡ (inserted (take used b₀) r c x ns).text
    text-next =
        let e : r + (k + 1) ≡ suc (r + k) = omega arith in
        let d : drop (from + n) x ≡ drop n (drop from x) = sym (drop-drop n from x) in
        rw (e, d) (put-text u (r + k) c n (drop (k + 1) ns) (drop from x) l (all_take not_lf n (drop from x) (all_drop not_lf from x p)) v refl)
        ∙ subst (λ (z : List ℕ). (inserted u (r + k) c (drop from x) z).text ≡ (inserted (take used b₀) r c x ns).text) (next ns k h) s.text

    pads_next : (inserted u (r + k) c (drop from x) (drop k ns)).inverse.second ≡ pad ∷ (inserted v (r + (k + 1)) c (drop (from + n) x) (drop (k + 1) ns)).inverse.second
    pads_next =
        let e : r + (k + 1) ≡ suc (r + k) = omega arith in
        let d : drop (from + n) x ≡ drop n (drop from x) = sym (drop-drop n from x) in
        rw (e, d, next ns k h) (put-pads u (r + k) c n (drop (k + 1) ns) (drop from x) l (all_take not_lf n (drop from x) (all_drop not_lf from x p)) v refl)

    -- the text grows to the whole, so a turn has room if the whole has
    pub turn_room : long + (pad + n) ≤ length (inserted (take used b₀) r c x ns).text
    turn_room =
        omega (arith, v_length, ap length text-next, block_inserted-length v (at (r + (k + 1)) c) (drop (from + n) x) (drop (k + 1) ns) (omega (arith, left-next, length-drop (from + n) x)))

    begins-more : (start₁ : ℕ) → start₁ ≡ row_end is_lf u (r + k) + pad + n + 1 → (k + 1 < length ns → r + k < last_row is_lf u)
        → Begins v r (length ns) (k + 1) start₁
    begins-more start₁ es below m =
        let e : r + (k + 1) ≡ suc (r + k) = omega arith in
        rw e (omega (arith, es, chunk_length, put-start u (r + k) c n (drop (k + 1) ns) (drop from x) l (all_take not_lf n (drop from x) (all_drop not_lf from x p)) v refl (below m)))

    -- b₁ is the buffer after the splice, q₁ the pads after the store, and start₁ is behind the row as it then is
    pub putting_more : (b₁ q₁ : List ℕ) (start₁ : ℕ) → start₁ ≡ row_end is_lf u (r + k) + pad + n + 1 → (k + 1 < length ns → r + k < last_row is_lf u)
        → b₁ ≡ renewed b long v → q₁ ≡ set q k pad → long + (pad + n) ≤ length b → length ns ≤ length q₀
        → Putting b₀ used r c x ns q₀ b₁ q₁ (long + (pad + n)) start₁ (from + n) (k + 1)
    putting_more b₁ q₁ start₁ es below eb eq room more =
        let W : List ℕ = (inserted (take used b₀) r c x ns).inverse.second in
        let lu : length u ≡ long = length-take-le long b s.fits in
        let lv : length v ≡ long + (pad + n) = v_length in
        let front : take (long + (pad + n)) b₁ ≡ v = rw (eb, ← lv) (renewed-text b long v) in
        let whole : b₁ ≡ renewed b₀ used v =
        eb ∙ subst (λ (z : ℕ). renewed b z v ≡ renewed (renewed b₀ used u) (length u) v) lu (ap (λ (z : List ℕ). renewed z (length u) v) s.kept)
        ∙ renewed-twice b₀ used u v (omega (arith, lu, lv)) (omega (arith, s.grown, s.fits, s.size)) (omega (arith, lv, s.size)) in
        let d : drop k W ≡ (pad ∷ []) ++ (inserted v (r + (k + 1)) c (drop (from + n) x) (drop (k + 1) ns)).inverse.second = s.rest ∙ pads_next in
        let kw : k ≤ length W = omega (arith, length-drop k W, ap length d) in
        record {
          within = omega arith;
          grown = omega (arith, s.grown);
          fits = omega (arith, ap length eb, renewed-length b long v s.fits (omega (arith, lv)));
          size = ap length eb ∙ renewed-length b long v s.fits (omega (arith, lv)) ∙ s.size;
          stores = ap length eq ∙ length-set q k pad ∙ s.stores;
          left = omega (arith, left-next);
          kept = rw front whole;
          rows = rw front (put_count u (r + k) c n (drop (k + 1) ns) (drop from x) l (all_take not_lf n (drop from x) (all_drop not_lf from x p)) v refl) ∙ s.rows;
          begins = rw front (begins-more start₁ es below);
          text = rw front text-next;
          pads = eq ∙ stored_more W q₀ q (pad ∷ []) (inserted v (r + (k + 1)) c (drop (from + n) x) (drop (k + 1) ns)).inverse.second k s.pads d (omega arith) kw;
          rest = rw front (stored-rest W q₀ q (pad ∷ []) (inserted v (r + (k + 1)) c (drop (from + n) x) (drop (k + 1) ns)).inverse.second k s.pads d (omega arith) kw);
        }

-- ---- the same, in the code's words: the present text is lent as a part of the buffer, and the chunk as a part of the payload

module _ {b₀ : List ℕ} {used r c : ℕ} {x ns q₀ b q : List ℕ} {long start from k : ℕ} (s : Putting b₀ used r c x ns q₀ b q long start from k) (h : k < length ns) (there : length ns ≤ row_count is_lf (take used b₀) - r) where
  pub chunk_end : from + get_or ns k 0 ≤ length x
  chunk_end = chunk_within b₀ used r c x ns q₀ b q long start from k s h

  abbrev now : List ℕ
  now = take (long - 0) b

  row_now : r + k ≤ last_row is_lf (take long b)
  row_now = omega (arith, count_last is_lf (take long b), s.rows)

  module _ (p : Plain x) (limit : length (inserted (take used b₀) r c x ns).text ≤ 16_384) where
    pub splice_asked : (length now ≤ 16_384) × (r + k ≤ last_row is_lf now) × (start ≡ row_start is_lf now (r + k))
    splice_asked = rw sub-zero (omega (arith, length-take long b, turn_room b₀ used r c x ns q₀ b q long start from k s h row_now p), row_now, s.begins h)

    module _ (room : length (inserted (take used b₀) r c x ns).text ≤ length b₀) (put : Put) (e : put ≡ put_at now (at (r + k) c)) where
      put-here : put ≡ put_at (take long b) (at (r + k) c)
      put-here = rw sub-zero at e

      chunk_here : take (from + get_or ns k 0 - from) (drop from x) ≡ take (get_or ns k 0) (drop from x)
      chunk_here = let z : from + get_or ns k 0 - from ≡ get_or ns k 0 = omega arith in rw z

      pub next_room : long + (put.pad + get_or ns k 0) ≤ length b
      next_room = rw put-here (omega (arith, turn_room b₀ used r c x ns q₀ b q long start from k s h row_now p, s.size))

      pub next_limit : long + (put.pad + get_or ns k 0) ≤ 16_384
      next_limit = rw put-here (omega (arith, turn_room b₀ used r c x ns q₀ b q long start from k s h row_now p))

      pub start-limit : put.end.0 + (put.pad + get_or ns k 0) ≤ 16_384
      start-limit = omega (arith, next_limit, end-within (take long b) r k _ (ap (λ (z : Put). z.end.0) put-here), length-take long b)

      pub open_asked : (put.at.0 ≤ long) × (long + (put.pad + length (take (from + get_or ns k 0 - from) (drop from x))) ≤ length b)
      open_asked =
          let o : put.at.0 ≤ long = rw put-here (omega (arith, offset-le is_lf (take long b) (at (r + k) c), length-take long b)) in
          (o, rw chunk_here (omega (arith, next_room, chunk_length b₀ used r c x ns q₀ b q long start from k s h)))

      pub putting_next : (b₁ : List ℕ) → b₁ ≡ gap_opened b long put.at.0 (replicate put.pad 32 ++ take (from + get_or ns k 0 - from) (drop from x)) → length ns ≤ length q₀
          → Putting b₀ used r c x ns q₀ b₁ (set q k put.pad) (long + (put.pad + get_or ns k 0)) (put.end.0 + put.pad + get_or ns k 0 + 1) (from + get_or ns k 0) (k + 1)
      putting_next b₁ eb more =
          let u = take long b in
          rw put-here
          (putting_more b₀ used r c x ns q₀ b q long start from k s h row_now p b₁ (set q k (pad_at u (r + k) c)) (row_end is_lf u (r + k) + pad_at u (r + k) c + get_or ns k 0 + 1) refl (λ m. omega (arith, count_last is_lf u, s.rows)) (rw (put-here, chunk_here) at eb) refl (rw put-here at next_room) more)

-- ---- at the end

inserted-none : (t : List ℕ) (r c : ℕ) (x : List ℕ) → (inserted t r c x []).text ≡ t
unfolding block_inserted pieces put_all
inserted-none t r c x = rw (take-append-drop r (lines is_lf t)) (unlines-lines is_lf t)

none_padded : (t : List ℕ) (r c : ℕ) (x : List ℕ) → (inserted t r c x []).inverse.second ≡ []
unfolding block_inserted pieces pads_of
none_padded t r c x = refl

pub putting_done : {b₀ : List ℕ} {used r c : ℕ} {x ns q₀ b q : List ℕ} {long start from k : ℕ} → Putting b₀ used r c x ns q₀ b q long start from k → length ns ≤ k
    → left b q ≡ left_by (inserted (take used b₀) r c x ns) b₀ used q₀
putting_done {b₀} {used} {r} {c} {x} {ns} {q₀} {b} {q} {long} {start} {from} {k} s h =
    let D = inserted (take used b₀) r c x ns in
    let z : drop k ns ≡ [] = drop_of_length-le ns h in
    let t : take long b ≡ D.text =
    sym (inserted-none (take long b) (r + k) c (drop from x)) ∙ subst (λ (y : List ℕ). (inserted (take long b) (r + k) c (drop from x) y).text ≡ D.text) z s.text in
    let p : drop k D.inverse.second ≡ [] =
    s.rest ∙ ap (λ (y : List ℕ). (inserted (take long b) (r + k) c (drop from x) y).inverse.second) z ∙ none_padded (take long b) (r + k) c (drop from x) in
    ap₂ {C = Left} left (s.kept ∙ ap (renewed b₀ used) t) (stored-end D.inverse.second q₀ q k s.pads p (omega (arith, s.within, pads_length (take used b₀) r c x ns)))
