-- The loop of a chunk delete: what is still to be cut from the present text gives what the whole gives on the first text.
use mathlib.Core.Path.{◌≡◌, refl, sym, ◌∙◌, ap, subst}
use mathlib.Core.List.{List, [], ◌∷◌, ◌++◌, flatten}
use Prim.Native.Nat.{ℕ, suc, ◌+◌, ◌-◌, ◌≤◌, ◌<◌}
use native.Mathlib.Nat.{add-zero, sub-zero}
use native.Mathlib.Omega.{arith}
use lib.ListN.{length, take, drop, get_or, set, length-append, length-take, length-drop, length-set, drop_of_length-le, take-append-drop}
use lib.Seq.{paste, slice, sets, sets-eq, length-sets, take-length, take-take, drop-drop, length-take-le}
use Rattle.promise.proofs.Lists.{next, first_from, drop-take}
use Rattle.promise.specs.Slices.{over}
use Rattle.text.specs.Rows.{lines, at, row_count, last_row, row_len, row_start, offset, spliced}
use Rattle.text.specs.Text.{is_lf, renewed}
use Rattle.text.proofs.Laws.{unlines-lines, count_last}
use Rattle.text.proofs.Changes.{row_of}
use Rattle.text.proofs.Spots.{row_within}
use Rattle.text.proofs.Renewed.{renewed-same, renewed-text, renewed-length, renewed-twice}
use Rattle.utf8.proofs.Stores.{stored_more, stored-rest, stored-end}
use Rattle.splice.specs.Splice.{Gap, gap, gap_removed}
use Rattle.edit.specs.Edits.{cut_all, chunks_of, chunks_deleted}
use Rattle.edit.proofs.Blocks.{chunks_le}
use Rattle.blocks.proofs.Starts.{Begins, begins-first}
use Rattle.chunks.specs.declared.Cut.{Cut}
use Rattle.chunks.specs.Chunks.{cut_at, left, left_by}
use Rattle.chunks.proofs.Cuts.{deleted, order, chunk_here, chunk_length, cut_text, cut_payload, cut_first_lem, cut_count, cut_start, gone_row, payload_length, first_length}

pub record Cutting (b₀ : List ℕ) (used r c : ℕ) (ws ds o₀ l₀ b o l : List ℕ) (long start filled k : ℕ) : Type 0 where
  pub within : k ≤ length ws
  pub begun : used ≤ length b₀
  pub shrunk : long ≤ used
  pub size : length b ≡ length b₀
  pub out_size : length o ≡ length o₀
  pub lens_size : length l ≡ length l₀
  pub kept : b ≡ renewed b₀ used (take long b)
  pub rows : row_count is_lf (take long b) ≡ row_count is_lf (take used b₀)
  pub begins : Begins (take long b) r (length ws) k start
  pub text : (deleted (take long b) (r + k) c (drop k ws) (drop k ds)).text ≡ (deleted (take used b₀) r c ws ds).text
  pub upto : filled ≤ length (deleted (take used b₀) r c ws ds).inverse.payload
  pub out : o ≡ take filled (deleted (take used b₀) r c ws ds).inverse.payload ++ drop filled o₀
  pub rest : drop filled (deleted (take used b₀) r c ws ds).inverse.payload ≡ (deleted (take long b) (r + k) c (drop k ws) (drop k ds)).inverse.payload
  pub lens : l ≡ take k (deleted (take used b₀) r c ws ds).inverse.first ++ drop k l₀
  pub more : drop k (deleted (take used b₀) r c ws ds).inverse.first ≡ (deleted (take long b) (r + k) c (drop k ws) (drop k ds)).inverse.first

-- ---- at the start

pub cutting_none : (b₀ : List ℕ) (used r c : ℕ) (ws ds o₀ l₀ : List ℕ) (start : ℕ) → used ≤ length b₀ → start ≡ row_start is_lf (take used b₀) r
    → Cutting b₀ used r c ws ds o₀ l₀ b₀ o₀ l₀ used start 0 0
cutting_none b₀ used r c ws ds o₀ l₀ start h e = record {
  within = omega arith;
  begun = h;
  shrunk = omega arith;
  size = refl;
  out_size = refl;
  lens_size = refl;
  kept = renewed-same b₀ used h;
  rows = refl;
  begins = begins-first (take used b₀) r (length ws) start e;
  text = rw add-zero;
  upto = omega arith;
  out = refl;
  rest = rw add-zero;
  lens = refl;
  more = rw add-zero;
}

-- ---- a turn

-- a copy of all of x is a store of its elements
paste-sets : (o x : List ℕ) (at : ℕ) → at + length x ≤ length o → paste o at x (length x) ≡ sets o at x
paste-sets o x at h = sym (sets-eq x o at h ∙ rw take-length)

-- a part of the front of b
part-front : (b : List ℕ) (long i j : ℕ) → j ≤ long → slice i j b ≡ take (j - i) (drop i (take long b))
part-front b long i j h = rw (← take-take j long b h) (drop-take i j (take long b))

module _ {b₀ : List ℕ} {used r c : ℕ} {ws ds o₀ l₀ b o l : List ℕ} {long start filled k : ℕ} (s : Cutting b₀ used r c ws ds o₀ l₀ b o l long start filled k) (h : k < length ws)
    (there : length ws ≤ row_count is_lf (take used b₀) - r) where
  abbrev u : List ℕ
  u = take long b

  abbrev w : ℕ
  w = get_or ws k 0

  abbrev i : ℕ
  i = offset is_lf u (at (r + k) (c - get_or ds k 0))

  abbrev j : ℕ
  j = offset is_lf u (at (r + k) (c + w))

  abbrev m : ℕ
  m = offset is_lf u (at (r + k) c)

  abbrev v : List ℕ
  v = spliced u i j []

  -- the chunk
  abbrev x : List ℕ
  x = take w (drop c (row_of u (r + k)).body)

  row_now : r + k ≤ last_row is_lf u
  row_now = omega (arith, count_last is_lf u, s.rows)

  u_length : length u ≡ long
  u_length = length-take-le long b (omega (arith, s.begun, s.shrunk, s.size))

  in_order : (i ≤ m) × (m ≤ j) × (j ≤ long)
  in_order = rw u_length at (order u (r + k) c w (get_or ds k 0) row_now)

  x_length : length x ≡ j - m
  x_length = sym (chunk_length u (r + k) c w row_now)

  v_length : length v ≡ long - (j - i)
  v_length = let q = in_order in omega (arith, length-append (take i u) (drop j u), length-take i u, length-drop j u, u_length)

  v_here : v ≡ spliced u (offset is_lf u (at (r + k) (c - get_or (drop k ds) 0 0))) j []
  v_here = rw (first_from ds k)

  on : r + (k + 1) ≡ suc (r + k)
  on = omega arith

  text-next : (deleted v (r + (k + 1)) c (drop (k + 1) ws) (drop (k + 1) ds)).text ≡ (deleted (take used b₀) r c ws ds).text
  text-next =
      rw (on, ← drop-drop 1 k ds) (cut_text u (r + k) c w (drop (k + 1) ws) (drop k ds) row_now v v_here)
      ∙ subst (λ (z : List ℕ). (deleted u (r + k) c z (drop k ds)).text ≡ (deleted (take used b₀) r c ws ds).text) (next ws k h) s.text

  rest_next : drop filled (deleted (take used b₀) r c ws ds).inverse.payload ≡ x ++ (deleted v (r + (k + 1)) c (drop (k + 1) ws) (drop (k + 1) ds)).inverse.payload
  rest_next = s.rest ∙ rw (on, ← drop-drop 1 k ds, next ws k h) (cut_payload u (r + k) c w (drop (k + 1) ws) (drop k ds) row_now v v_here)

  more_next : drop k (deleted (take used b₀) r c ws ds).inverse.first ≡ (length x ∷ []) ++ (deleted v (r + (k + 1)) c (drop (k + 1) ws) (drop (k + 1) ds)).inverse.first
  more_next = s.more ∙ rw (on, ← drop-drop 1 k ds, next ws k h) (cut_first_lem u (r + k) c w (drop (k + 1) ws) (drop k ds) row_now v v_here)

  x_room : filled + length x ≤ length (deleted (take used b₀) r c ws ds).inverse.payload
  x_room =
      let P : List ℕ = (deleted (take used b₀) r c ws ds).inverse.payload in
      let Q : List ℕ = (deleted v (r + (k + 1)) c (drop (k + 1) ws) (drop (k + 1) ds)).inverse.payload in
      omega (arith, length-drop filled P, ap length rest_next, length-append x Q, s.upto)

  begins-more : (start₁ : ℕ) → start₁ ≡ row_start is_lf u (r + k) + row_len is_lf u (r + k) - (j - i) + 1 → Begins v r (length ws) (k + 1) start₁
  begins-more start₁ es n =
      let g : r + k < last_row is_lf u = omega (arith, count_last is_lf u, s.rows) in
      let z : offset is_lf u (at (r + k) (c - get_or (drop k ds) 0 0)) ≡ i = rw (first_from ds k) in
      es ∙ rw on (sym (rw z at (cut_start u (r + k) c w (drop (k + 1) ws) (drop k ds) row_now v v_here g)))

  -- b₁ and o₁ are left by the cut, l₁ by the store, and start₁ is behind the row as it then is
  cutting_more : (b₁ o₁ l₁ : List ℕ) (start₁ : ℕ) → start₁ ≡ row_start is_lf u (r + k) + row_len is_lf u (r + k) - (j - i) + 1 → b₁ ≡ gap_removed b long i j → o₁ ≡ paste o filled (slice m j b) (j - m) → l₁ ≡ set l k (j - m)
      → length (deleted (take used b₀) r c ws ds).inverse.payload ≤ length o₀ → length ws ≤ length l₀
      → Cutting b₀ used r c ws ds o₀ l₀ b₁ o₁ l₁ (long - (j - i)) start₁ (filled + (j - m)) (k + 1)
  cutting_more b₁ o₁ l₁ start₁ es eb eo el ro rl =
      let P : List ℕ = (deleted (take used b₀) r c ws ds).inverse.payload in
      let N : List ℕ = (deleted (take used b₀) r c ws ds).inverse.first in
      let P₁ : List ℕ = (deleted v (r + (k + 1)) c (drop (k + 1) ws) (drop (k + 1) ds)).inverse.payload in
      let N₁ : List ℕ = (deleted v (r + (k + 1)) c (drop (k + 1) ws) (drop (k + 1) ds)).inverse.first in
      let lb : long ≤ length b = omega (arith, s.begun, s.shrunk, s.size) in
      let lv : length v ≤ long = omega (arith, v_length) in
      let front : take (long - (j - i)) b₁ ≡ v = rw (eb, ← v_length) (renewed-text b long v) in
      let whole : b₁ ≡ renewed b₀ used v =
      eb ∙ subst (λ (z : ℕ). renewed b z v ≡ renewed (renewed b₀ used u) (length u) v) u_length (ap (λ (z : List ℕ). renewed z (length u) v) s.kept)
      ∙ renewed-twice b₀ used u v (omega (arith, u_length, s.shrunk)) s.begun (omega (arith, lv, lb, s.size)) in
      let part : slice m j b ≡ x = part-front b long m j in_order.2 ∙ chunk_here u (r + k) c w [] [] row_now in
      let xo : filled + length x ≤ length o = omega (arith, x_room, s.out_size) in
      let st : o₁ ≡ sets o filled x = rw (part, ← x_length) at eo ∙ paste-sets o x filled xo in
      let ko : filled + length x ≤ length o₀ = omega (arith, x_room) in
      let kn : k ≤ length N = omega (arith, first_length (take used b₀) r c ws ds) in
      let lm : length x ≡ j - m = x_length in
      record {
        within = omega arith;
        begun = s.begun;
        shrunk = omega (arith, s.shrunk);
        size = ap length eb ∙ renewed-length b long v lb (omega (arith, lv, lb)) ∙ s.size;
        out_size = ap length st ∙ length-sets o filled x ∙ s.out_size;
        lens_size = ap length el ∙ length-set l k (j - m) ∙ s.lens_size;
        kept = rw front whole;
        rows = rw front (cut_count u (r + k) c w (drop (k + 1) ws) (drop k ds) row_now v v_here) ∙ s.rows;
        begins = rw front (begins-more start₁ es);
        text = rw front text-next;
        upto = rw (← lm) x_room;
        out = rw (← lm) (st ∙ stored_more P o₀ o x P₁ filled s.out rest_next ko s.upto);
        rest = rw (front, ← lm) (stored-rest P o₀ o x P₁ filled s.out rest_next ko s.upto);
        lens = el ∙ rw (← lm) (stored_more N l₀ l (length x ∷ []) N₁ k s.lens more_next (omega arith) kn);
        more = rw front (stored-rest N l₀ l (length x ∷ []) N₁ k s.lens more_next (omega arith) kn);
      }

  -- ---- the same, in the code's words: the present text is lent as a part of the buffer

  pub splice_asked : used ≤ 16_384 → (length (take (long - 0) b) ≤ 16_384) × (r + k ≤ last_row is_lf (take (long - 0) b)) × (start ≡ row_start is_lf (take (long - 0) b) (r + k))
  splice_asked n = rw sub-zero (omega (arith, u_length, s.shrunk), row_now, s.begins h)

  module _ (d : ℕ) (ed : d ≡ get_or ds k 0) (cut : Cut) (e : cut ≡ cut_at (take (long - 0) b) (at (r + k) c) w d) where
    cut_here : cut ≡ cut_at u (at (r + k) c) w (get_or ds k 0)
    cut_here = rw (sub-zero, ed) at e

    pub end-asked : (cut.to.0 - cut.from.0 ≤ cut.end.0) × (cut.end.0 ≤ long)
    end-asked = rw cut_here (omega (arith, gone_row u (r + k) c w (get_or ds k 0) row_now), omega (arith, row_within is_lf u (r + k), u_length))

    module _ (ro : length (deleted (take used b₀) r c ws ds).inverse.payload ≤ length o₀) where
      pub row_asked : (cut.from.0 ≤ cut.chunk.0) × (cut.chunk.0 ≤ cut.to.0) × (cut.to.0 ≤ long) × (long ≤ length b) × (filled + (cut.to.0 - cut.chunk.0) ≤ length o)
      row_asked =
          let q = in_order in
          rw cut_here (q.0, q.1, q.2, omega (arith, s.begun, s.shrunk, s.size), omega (arith, x_room, x_length, s.out_size))

      pub filled-bound : filled + (cut.to.0 - cut.chunk.0) ≤ used
      filled-bound =
          rw cut_here (omega (arith, x_room, x_length, payload_length (take used b₀) r c ws ds, chunks_le (take used b₀) c r ws, length-take used b₀))

      pub cutting_next : (b₁ o₁ : List ℕ) → gap b₁ o₁ ≡ gap (gap_removed b long cut.from.0 cut.to.0) (paste o filled (slice cut.chunk.0 cut.to.0 b) (cut.to.0 - cut.chunk.0))
          → length ws ≤ length l₀
          → Cutting b₀ used r c ws ds o₀ l₀ b₁ o₁ (set l k (cut.to.0 - cut.chunk.0)) (long - (cut.to.0 - cut.from.0)) (cut.end.0 - (cut.to.0 - cut.from.0) + 1) (filled + (cut.to.0 - cut.chunk.0)) (k + 1)
      cutting_next b₁ o₁ g rl =
          let q = rw cut_here at g in
          rw cut_here (cutting_more b₁ o₁ (set l k (j - m)) (row_start is_lf u (r + k) + row_len is_lf u (r + k) - (j - i) + 1) refl (ap (λ (z : Gap). z.text) q) (ap (λ (z : Gap). z.cut) q) refl ro rl)

-- ---- at the end

none_cut : (t : List ℕ) (r c : ℕ) (ds : List ℕ) → (deleted t r c [] ds).text ≡ t
unfolding chunks_deleted cut_all
none_cut t r c ds = rw (take-append-drop r (lines is_lf t)) (unlines-lines is_lf t)

none_recorded : (t : List ℕ) (r c : ℕ) (ds : List ℕ) → ((deleted t r c [] ds).inverse.payload ≡ []) × ((deleted t r c [] ds).inverse.first ≡ [])
unfolding chunks_deleted chunks_of flatten
none_recorded t r c ds = (refl, refl)

pub cutting_done : {b₀ : List ℕ} {used r c : ℕ} {ws ds o₀ l₀ b o l : List ℕ} {long start filled k : ℕ} → Cutting b₀ used r c ws ds o₀ l₀ b o l long start filled k → length ws ≤ k
    → left b o l ≡ left_by (deleted (take used b₀) r c ws ds) b₀ used o₀ l₀
cutting_done {b₀} {used} {r} {c} {ws} {ds} {o₀} {l₀} {b} {o} {l} {long} {start} {filled} {k} s h =
    let D = deleted (take used b₀) r c ws ds in
    let z : drop k ws ≡ [] = drop_of_length-le ws h in
    let n = none_recorded (take long b) (r + k) c (drop k ds) in
    let t : take long b ≡ D.text =
    sym (none_cut (take long b) (r + k) c (drop k ds)) ∙ subst (λ (y : List ℕ). (deleted (take long b) (r + k) c y (drop k ds)).text ≡ D.text) z s.text in
    let p : drop filled D.inverse.payload ≡ [] = s.rest ∙ ap (λ (y : List ℕ). (deleted (take long b) (r + k) c y (drop k ds)).inverse.payload) z ∙ n.0 in
    let f : drop k D.inverse.first ≡ [] = s.more ∙ ap (λ (y : List ℕ). (deleted (take long b) (r + k) c y (drop k ds)).inverse.first) z ∙ n.1 in
    let eb : b ≡ renewed b₀ used D.text = s.kept ∙ ap (renewed b₀ used) t in
    let eo : o ≡ over D.inverse.payload o₀ = stored-end D.inverse.payload o₀ o filled s.out p s.upto in
    let el : l ≡ over D.inverse.first l₀ = stored-end D.inverse.first l₀ l k s.lens f (omega (arith, s.within, first_length (take used b₀) r c ws ds)) in
    rw (eb, eo, el)
