-- What the edits of rows come to, from what their builders promise.
use mathlib.Core.Path.{◌≡◌, refl, sym, ap, ◌∙◌}
use mathlib.Core.Bool.{Bool, true, false}
use mathlib.Core.List.{List, [], ◌∷◌}
use Prim.Native.Nat.{ℕ, zero, suc, ◌-◌, ◌*◌, ◌≤◌, ◌<◌, min, max}
use native.Mathlib.Nat.{sub-zero}
use native.Mathlib.Omega.{arith}
use lib.ListN.{length, take, drop, replicate, length-drop, length-map}
use Rattle.promise.proofs.Lists.{drop-take, tail_whole}
use Rattle.text.specs.declared.Position.{Position}
use Rattle.text.specs.declared.Row.{Row}
use Rattle.text.specs.declared.Span.{Span}
use Rattle.text.specs.Rows.{line, at, char_at, lines, row_count, last_row, row_start, span}
use Rattle.text.specs.Text.{is_lf}
use Rattle.text.proofs.Laws.{lines_from}
use Rattle.text.proofs.Changes.{row_of, row_from}
use Rattle.edit.specs.declared.MotionKind.TheVariants.{Block}
use Rattle.edit.specs.declared.Edit.TheVariants.{DeleteRange, JoinLines, SplitLines, InsertBlock, DeleteBlockChunks}
use Rattle.edit.specs.Edits.{pieces, chunks_of, corner, height, breadth, any_flag, joined, split, block_inserted, chunks_deleted, range_deleted, edited_by}
use Rattle.edit.specs.Refusals.{is_space, spaces, sum, within_all, within_ok}
use Rattle.edit.proofs.Joins.{join_cols-length, join_flags-length}
use Rattle.edit.proofs.Blocks.{pads_of-length, chunks_of-length, pieces-length}
use Rattle.steps.specs.declared.Resolved.{Resolved}
use Rattle.steps.specs.Steps.{ahead}
use Rattle.steps.specs.Kinds.{put_steps, cut_steps, split_steps, block_steps, chunk_steps, range_steps, steps_by, makes}
use Rattle.steps.specs.Numbers.{steps_of, come_by}
use Rattle.steps.specs.Resolves.{StartsAt, Resolves}
use Rattle.steps.proofs.Sums.{steps_count, ahead-count, join-count}
use Rattle.joining.specs.Joining.{filled, join_from}
use Rattle.resolve.proofs.Wholes.{row_slice, join-whole, join-bounded, split-whole, put_whole, put-absent, cut_whole, cut_absent}

-- ---- joins

below_last : (k r : ℕ) → k - suc r ≡ k - 1 - r
below_last k r = omega arith

module _ (t x f s l : List ℕ) (row : Row) (count : ℕ) (b : Bool) (g : Span) (eg : g ≡ span is_lf t row.0) (m n : ℕ) where
  abbrev r : ℕ
  r = min row.0 (last_row is_lf t)

  abbrev joining : Resolved
  joining = record {
    steps = n;
    made = 32;
    within = true;
    inverse = SplitLines g.row;
    first = n;
    second = n;
    start = g.start;
    cursor = record { row = g.row; col = record { 0 = 0 } };
    settled = true;
  }

  module _ (em : m ≡ min (max count 1) 256) (few : min (max count 1) (last_row is_lf t - r) ≤ 256) (hn : n ≤ m) (h : 5 * min (max count 1) 256 ≤ length l) (c : come_by n l ≡ 0)
      (k : (x p : List ℕ) → filled p ≡ false → steps_of n l x ≡ ahead g.start.0 (join_from 32 b p m (lines is_lf (take (length t - g.start.0) (drop g.start.0 t))))) where
    below_few : min (max count 1) (length (drop (suc r) (lines is_lf t))) ≤ 256
    unfolding last_row row_count
    below_few = rw (length-drop (suc r) (lines is_lf t), below_last (length (lines is_lf t)) r) few

    join-steps : steps_of n l x ≡ steps_by is_lf is_space spaces (JoinLines row count b) x f s t
    unfolding filled span
    join-steps =
        let e : g.start.0 ≡ row_start is_lf t r = rw eg in
        let q : lines is_lf (drop (row_start is_lf t r) t) ≡ row_of t r ∷ drop (suc r) (lines is_lf t) = lines_from is_lf t r (omega arith) ∙ row_from t r (omega arith) in
        let v : steps_of n l x ≡ ahead (row_start is_lf t r) (join_from 32 b [] m (lines is_lf (drop (row_start is_lf t r) t))) = rw (tail_whole t g.start.0, e) at (k x [] refl) in
        let z : join_from 32 b [] m (lines is_lf (drop (row_start is_lf t r) t)) ≡ join_from 32 b [] (max count 1) (lines is_lf (drop (row_start is_lf t r) t)) =
        rw (em, q) (join-bounded b [] (max count 1) (row_of t r) (drop (suc r) (lines is_lf t)) below_few) in
        v ∙ ap (ahead (row_start is_lf t r)) z ∙ join-whole t row count b x f s

    join-made : n ≡ length (take (max count 1) (drop (suc r) (lines is_lf t)))
    unfolding steps_by
    join-made = sym (steps_count n l x) ∙ ap length join-steps ∙ ahead-count (row_start is_lf t r) _ ∙ join-count 32 b (row_of t r) _ (take (max count 1) (drop (suc r) (lines is_lf t)))

    pub join-resolves : Resolves joining l (JoinLines row count b) x f s t
    unfolding makes within_ok edited_by joined StartsAt span
    join-resolves = record {
      few = omega arith;
      numbers = omega arith;
      come = omega arith;
      steps = join-steps;
      made = refl;
      within = refl;
      inverse = rw eg;
      first = join-made ∙ sym (join_cols-length b (row_of t r) (take (max count 1) (drop (suc r) (lines is_lf t))));
      second = join-made ∙ sym (join_flags-length b (row_of t r) (take (max count 1) (drop (suc r) (lines is_lf t))));
      start = rw eg;
      cursor = rw eg;
    }

-- ---- splits

module _ (t x cs fs l : List ℕ) (row : Row) (g : Span) (eg : g ≡ span is_lf t row.0) (w q : Bool) (n : ℕ) where
  abbrev lent_row : List ℕ
  lent_row = take (g.end.0 - g.start.0) (drop g.start.0 t)

  abbrev splitting : Resolved
  splitting = record {
    steps = length cs;
    made = 10;
    within = w;
    inverse = JoinLines g.row n q;
    first = 0;
    second = 0;
    start = char_at 0;
    cursor = record { row = g.row; col = record { 0 = 0 } };
    settled = true;
  }

  pub split-resolves : length cs ≤ 256 → 5 * length cs ≤ length l → come_by (length cs) l ≡ 0 → n ≡ length cs → q ≡ any_flag fs → ((z : List ℕ) → w ≡ within_all (line lent_row z) cs fs)
      → steps_of (length cs) l x ≡ ahead g.start.0 (split_steps is_lf is_space spaces lent_row cs fs) → Resolves splitting l (SplitLines row) x cs fs t
  unfolding makes within_ok edited_by split StartsAt span
  split-resolves few h c en eq ew es =
      let e : lent_row ≡ (row_of t (min row.0 (last_row is_lf t))).body = sym (drop-take g.start.0 g.end.0 t) ∙ row_slice t row.0 g eg in
      record {
        few = few;
        numbers = omega arith;
        come = omega arith;
        steps = es ∙ split-whole t row g lent_row x cs fs eg (sym (drop-take g.start.0 g.end.0 t));
        made = refl;
        within = ew (row_of t (min row.0 (last_row is_lf t))).after ∙ ap (λ (b : List ℕ). within_all (line b (row_of t (min row.0 (last_row is_lf t))).after) cs fs) e;
        inverse = rw (eg, en, eq);
        first = refl;
        second = refl;
        start = tt;
        cursor = rw eg;
      }

-- ---- blocks

module _ (t : List ℕ) (p : Position) (g : Span) (eg : g ≡ span is_lf t p.row.0) where
  there : p.row.0 ≤ g.row.0 → (p.row.0 ≤ last_row is_lf t) × (g.start.0 ≡ row_start is_lf t p.row.0)
  unfolding span
  there h =
      let q : min p.row.0 (last_row is_lf t) ≡ g.row.0 = sym (ap (λ (g : Span). g.row.0) eg) in
      let k : p.row.0 ≤ last_row is_lf t = omega arith in
      (k, ap (λ (g : Span). g.start.0) eg ∙ ap (row_start is_lf t) (omega arith))

  absent : g.row.0 < p.row.0 → last_row is_lf t < p.row.0
  unfolding span
  absent h = let q : min p.row.0 (last_row is_lf t) ≡ g.row.0 = sym (ap (λ (g : Span). g.row.0) eg) in omega arith

  pub put-there : (ns : List ℕ) (n : ℕ) (l x : List ℕ) → p.row.0 ≤ g.row.0
      → steps_of n l x ≡ ahead g.start.0 (put_steps p.col.0 (pieces ns x) (lines is_lf (take (length t - g.start.0) (drop g.start.0 t))))
      → steps_of n l x ≡ block_steps is_lf t p x ns
  unfolding steps_by
  put-there ns n l x h e = let q = there h in (rw (tail_whole t g.start.0, q.1) at e) ∙ put_whole t p x ns [] q.0

  pub put-gone : (ns l x : List ℕ) → g.row.0 < p.row.0 → steps_of 0 l x ≡ block_steps is_lf t p x ns
  unfolding steps_by steps_of
  put-gone ns l x h = put-absent t p x ns [] (absent h)

  pub cut_there : (ws ds : List ℕ) (n : ℕ) (l x : List ℕ) → p.row.0 ≤ g.row.0
      → steps_of n l x ≡ ahead g.start.0 (cut_steps p.col.0 ws ds (lines is_lf (take (length t - g.start.0) (drop g.start.0 t))))
      → steps_of n l x ≡ chunk_steps is_lf t p ws ds
  unfolding steps_by
  cut_there ws ds n l x h e = let q = there h in (rw (tail_whole t g.start.0, q.1) at e) ∙ cut_whole t p x ws ds q.0

  pub cut_gone : (ws ds l x : List ℕ) → g.row.0 < p.row.0 → steps_of 0 l x ≡ chunk_steps is_lf t p ws ds
  unfolding steps_by steps_of
  cut_gone ws ds l x h = cut_absent t p x ws ds (absent h)

module _ (t x s l : List ℕ) (p : Position) (n : ℕ) where
  pub put-resolves : (ns : List ℕ) → 5 * length ns ≤ length l → length ns ≤ 256 → n ≤ length ns → come_by n l ≤ sum ns → sum ns ≤ length x → steps_of n l x ≡ block_steps is_lf t p x ns
      → Resolves (record { steps = n; made = 32; within = true; inverse = DeleteBlockChunks p; first = length ns; second = length ns; start = char_at 0; cursor = p; settled = false }) l (InsertBlock p) x ns s t
  unfolding steps_by makes within_ok edited_by block_inserted StartsAt
  put-resolves ns h few hn c k e = record {
    few = omega arith;
    numbers = omega arith;
    come = omega arith;
    steps = e;
    made = refl;
    within = refl;
    inverse = refl;
    first = refl;
    second = sym (pads_of-length p.col.0 (pieces ns x) (drop p.row.0 (lines is_lf t)) ∙ pieces-length ns x);
    start = tt;
    cursor = refl;
  }

  pub chunks_resolve : (ws ds : List ℕ) → 5 * length ws ≤ length l → length ws ≤ 256 → n ≤ length ws → come_by n l ≡ 0 → steps_of n l x ≡ chunk_steps is_lf t p ws ds
      → Resolves (record { steps = n; made = 32; within = true; inverse = InsertBlock p; first = length ws; second = 0; start = char_at 0; cursor = p; settled = false }) l (DeleteBlockChunks p) x ws ds t
  unfolding steps_by makes within_ok edited_by chunks_deleted StartsAt
  chunks_resolve ws ds h few hn c e =
      let ks : List (List ℕ) = chunks_of p.col.0 ws (drop p.row.0 (lines is_lf t)) in
      record {
        few = omega arith;
        numbers = omega arith;
        come = omega arith;
        steps = e;
        made = refl;
        within = refl;
        inverse = refl;
        first = sym (length-map ks length ∙ chunks_of-length p.col.0 ws (drop p.row.0 (lines is_lf t)));
        second = refl;
        start = tt;
        cursor = refl;
      }

-- a Block delete cuts chunks
block_resolves : (r : Resolved) (l x f s t : List ℕ) (p q : Position) → Resolves r l (DeleteBlockChunks (corner p q)) x (replicate (height p q) (breadth p q)) [] t → Resolves r l (DeleteRange p q Block) x f s t
unfolding steps_by range_steps makes within_ok edited_by range_deleted StartsAt
block_resolves r l x f s t p q R = record {
  few = R.few;
  numbers = R.numbers;
  come = R.come;
  steps = R.steps;
  made = R.made;
  within = R.within;
  inverse = R.inverse;
  first = R.first;
  second = R.second;
  start = R.start;
  cursor = R.cursor;
}

take-replicate : (h n x : ℕ) → h ≤ n → take h (replicate n x) ≡ replicate h x
take-replicate zero n x k = refl
take-replicate (suc h) zero x k = absurd (omega arith)
take-replicate (suc h) (suc n) x k = ap (◌∷◌ x) (take-replicate h n x (omega arith))

-- from the widths as they are lent
pub block_lent : (r : Resolved) (l x f s t : List ℕ) (p q : Position) (h w a c : ℕ) → h ≡ height p q → w ≡ breadth p q → a ≡ min p.row.0 q.row.0 → c ≡ min p.col.0 q.col.0 → height p q ≤ 256
    → Resolves r l (DeleteBlockChunks (at a c)) x (take (h - 0) (replicate 256 w)) [] t → Resolves r l (DeleteRange p q Block) x f s t
block_lent r l x f s t p q h w a c eh ew ea ec k R = block_resolves r l x f s t p q (rw (sub-zero, ea, ec, ew, eh, take-replicate (height p q) 256 (breadth p q) k) at R)
