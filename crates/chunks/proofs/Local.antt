-- A chunk delete leaves alone what stands behind the last row that it cuts: that moves down as one.
use mathlib.Core.Path.{◌≡◌, refl, sym, ◌∙◌, ap}
use mathlib.Core.List.{List, [], ◌∷◌, ◌++◌, append_assoc, append-nil, map, flatten}
use Prim.Native.Nat.{ℕ, suc, ◌+◌, ◌-◌, ◌≤◌}
use native.Mathlib.Nat.{sub-zero}
use native.Mathlib.Omega.{arith}
use lib.ListN.{length, take, drop, length-append, length-take, length-drop}
use lib.Seq.{take-length, drop-length, take-take}
use Rattle.promise.specs.Slices.{over}
use Rattle.text.specs.declared.Position.{Position}
use Rattle.text.specs.Rows.{Line, line, lines, unlines, row_count, last_row, row_start, row_end}
use Rattle.text.specs.Text.{is_lf, renewed}
use Rattle.text.proofs.Spots.{row_within}
use Rattle.text.proofs.Broken.{unlines-append}
use Rattle.text.proofs.Changes.{row_of}
use Rattle.text.proofs.Fronts.{bared, behind-front, front-count, front_above, front-from, whole_from, rows-between, front-start}
use Rattle.splice.specs.Splice.{gap_removed}
use Rattle.splice.proofs.Rooms.{moved_down}
use Rattle.edit.specs.Edits.{Edited, cut_all, chunks_of, chunks_deleted}
use Rattle.edit.proofs.Sizes.{chunks_deleted-length}
use Rattle.blocks.specs.Blocks.{last_end}
use Rattle.blocks.proofs.Starts.{row_there}
use Rattle.chunks.specs.declared.Sizes.{Sizes}
use Rattle.chunks.specs.Chunks.{sizes_of, Left, left, cut_from, left_by}
use Rattle.chunks.proofs.Cuts.{deleted}

-- ---- rows: A and one more are cut, B is not

module _ (c : ℕ) (b z : List ℕ) (B : List (Line ℕ)) where
  cut_last : (ws ds : List ℕ) (A : List (Line ℕ)) → length ws ≡ suc (length A) → unlines (cut_all c ws ds (A ++ line b z ∷ B)) ≡ unlines (cut_all c ws ds (A ++ line b [] ∷ [])) ++ (z ++ unlines B)
  unfolding cut_all unlines
  cut_last [] ds A e = absurd (omega arith)
  cut_last (w ∷ []) ds [] e = rw append-nil
  cut_last (w ∷ v ∷ ws) ds [] e = absurd (omega arith)
  cut_last (w ∷ ws) ds (a ∷ A) e = rw (cut_last ws (drop 1 ds) A (omega arith)) (simp append_assoc)

  chunks_last : (ws : List ℕ) (A : List (Line ℕ)) → length ws ≡ suc (length A) → chunks_of c ws (A ++ line b z ∷ B) ≡ chunks_of c ws (A ++ line b [] ∷ [])
  unfolding chunks_of
  chunks_last [] A e = absurd (omega arith)
  chunks_last (w ∷ []) [] e = refl
  chunks_last (w ∷ v ∷ ws) [] e = absurd (omega arith)
  chunks_last (w ∷ ws) (a ∷ A) e = rw (chunks_last ws A (omega arith))

-- ---- the delete, of the whole text and of its front

-- the rows from r up to q are cut
module _ (t : List ℕ) (r c : ℕ) (w : ℕ) (ws ds : List ℕ) (h : r + length ws ≤ last_row is_lf t) where
  abbrev q : ℕ
  q = r + length ws

  abbrev e : ℕ
  e = row_end is_lf t q

  -- the rows from r on that stand above q
  abbrev A : List (Line ℕ)
  A = drop r (take q (lines is_lf t))

  abbrev z : Line ℕ
  z = row_of t q

  abbrev B : List (Line ℕ)
  B = drop (suc q) (lines is_lf t)

  not-below : r ≤ q
  not-below = omega arith

  rows_cut : suc (length ws) ≡ suc (length A)
  rows_cut = omega (arith, rows-between t q h r not-below)

  text-local : (deleted t r c (w ∷ ws) ds).text ≡ (deleted (take e t) r c (w ∷ ws) ds).text ++ drop e t
  unfolding chunks_deleted
  text-local =
      let F : List (Line ℕ) = take r (lines is_lf t) in
      let G : List (Line ℕ) = cut_all c (w ∷ ws) ds (A ++ z ∷ B) in
      let H : List (Line ℕ) = cut_all c (w ∷ ws) ds (A ++ bared z ∷ []) in
      rw (whole_from t q h r not-below, front_above t q h r not-below, front-from t q h r not-below, behind-front t q h, unlines-append F G, unlines-append F H, cut_last c z.body z.after B (w ∷ ws) ds A rows_cut) (simp append_assoc)

  chunks_local : chunks_of c (w ∷ ws) (drop r (lines is_lf (take e t))) ≡ chunks_of c (w ∷ ws) (drop r (lines is_lf t))
  chunks_local = rw (whole_from t q h r not-below, front-from t q h r not-below) (sym (chunks_last c z.body z.after B (w ∷ ws) A rows_cut))

  payload_local : (deleted (take e t) r c (w ∷ ws) ds).inverse.payload ≡ (deleted t r c (w ∷ ws) ds).inverse.payload
  unfolding chunks_deleted
  payload_local = ap flatten chunks_local

  first_local : (deleted (take e t) r c (w ∷ ws) ds).inverse.first ≡ (deleted t r c (w ∷ ws) ds).inverse.first
  unfolding chunks_deleted
  first_local = ap (map length) chunks_local

-- e is where the last row that is cut ends
record Local (t : List ℕ) (r c : ℕ) (ws ds : List ℕ) (e : ℕ) : Type 0 where
  pub within : e ≤ length t
  pub start : row_start is_lf (take e t) r ≡ row_start is_lf t r
  pub rows : length ws ≤ row_count is_lf (take e t) - r
  pub text : (deleted t r c ws ds).text ≡ (deleted (take e t) r c ws ds).text ++ drop e t
  pub payload : (deleted (take e t) r c ws ds).inverse.payload ≡ (deleted t r c ws ds).inverse.payload
  pub first : (deleted (take e t) r c ws ds).inverse.first ≡ (deleted t r c ws ds).inverse.first

local : (t : List ℕ) (r c : ℕ) (ws ds : List ℕ) → length ws ≤ row_count is_lf t - r → Local t r c ws ds (last_end t r (length ws))
local t r c [] ds h = record { within = omega arith; start = rw take-length; rows = omega arith; text = rw (take-length, drop-length, append-nil); payload = rw take-length; first = rw take-length }
local t r c (w ∷ ws) ds h =
    let k : r + length ws ≤ last_row is_lf t = row_there t r (length ws) (suc (length ws)) (omega arith) h in
    record {
      within = row_within is_lf t (r + length ws);
      start = front-start t (r + length ws) k r (omega arith);
      rows = omega (arith, front-count t (r + length ws) k);
      text = text-local t r c w ws ds k;
      payload = payload_local t r c w ws ds k;
      first = first_local t r c w ws ds k;
    }

-- ---- in the code's words

-- the first e of the text are lent, y comes back with u, and b₁ is left by the move
tail_found : (b : List ℕ) (used e : ℕ) (u : List ℕ) → length u ≤ e → e ≤ used → used ≤ length b → (y b₁ : List ℕ) (i : ℕ) → y ≡ renewed (take (e - 0) b) e u → i ≡ length u
    → b₁ ≡ gap_removed (y ++ drop (e - 0) b) used i e → b₁ ≡ renewed b used (u ++ drop e (take used b))
tail_found b used e u hu he hb y b₁ i ey ei q = q ∙ rw (ei, ey, sub-zero) (moved_down b used e u hu he hb)

module _ (b : List ℕ) (used : ℕ) (p : Position) (ws ds : List ℕ) (z : Sizes) (ez : z ≡ sizes_of (take used b) p ws ds)
    (hb : used ≤ length b) (hw : length ws ≤ row_count is_lf (take used b) - p.row.0) where
  abbrev d : Edited ℕ
  d = cut_from b used p ws ds

  -- what is lent, and its delete
  abbrev x : List ℕ
  x = take (z.end.0 - 0) b

  abbrev f : Edited ℕ
  f = cut_from x z.end.0 p ws ds

  here : Local (take used b) p.row.0 p.col.0 ws ds z.end.0
  here = rw ez (local (take used b) p.row.0 p.col.0 ws ds hw)

  end-used : z.end.0 ≤ used
  end-used = omega (arith, here.within, length-take used b)

  lent_is : take z.end.0 x ≡ take z.end.0 (take used b)
  lent_is = rw (sub-zero, take-take z.end.0 used b end-used) (take-take z.end.0 z.end.0 b (omega arith))

  payload_here : f.inverse.payload ≡ d.inverse.payload
  payload_here = rw lent_is here.payload

  first_here : f.inverse.first ≡ d.inverse.first
  first_here = rw lent_is here.first

  text-here : d.text ≡ f.text ++ drop z.end.0 (take used b)
  text-here = rw lent_is here.text

  front-short : length f.text ≤ z.end.0
  front-short = omega (arith, chunks_deleted-length (take z.end.0 x) p ws ds, length-take z.end.0 x)

  size_is : z.used ≡ length f.text + (used - z.end.0)
  size_is =
      let n : ℕ = z.end.0 in
      ap (λ (y : Sizes). y.used) ez ∙ ap length text-here ∙ omega (arith, length-append f.text (drop n (take used b)), length-drop n (take used b), length-take used b)

  pub gone_within : (z.used ≤ used) × (used - z.used ≤ z.end.0) × (z.end.0 ≤ used)
  gone_within = (omega (arith, size_is, end-used, front-short), omega (arith, size_is, end-used, front-short), end-used)

  pub front-asked : used ≤ 16_384 → p.row.0 ≤ 1_000_000 → length ws ≤ 256 → (o l : List ℕ) → length d.inverse.payload ≤ length o → length ws ≤ length l
      → (z.end.0 ≤ length x) × (z.end.0 ≤ 16_384) × (p.row.0 ≤ 1_000_000) × (length ws ≤ 256) × (length ws ≤ row_count is_lf (take z.end.0 x) - p.row.0)
      × (length f.inverse.payload ≤ length o) × (length ws ≤ length l) × (z.start.0 ≡ row_start is_lf (take z.end.0 x) p.row.0)
  front-asked hu hr hn o l ho hl = (
    omega (arith, length-take (z.end.0 - 0) b, end-used),
    omega (arith, end-used),
    hr,
    hn,
    rw lent_is here.rows,
    rw payload_here ho,
    hl,
    ap (λ (y : Sizes). y.start.0) ez ∙ rw lent_is (sym here.start),
  )

  -- y, o₁ and l₁ are left by the loop over the rows, b₁ by the move
  pub block_found : (y b₁ o o₁ l l₁ : List ℕ) → left y o₁ l₁ ≡ left_by f x z.end.0 o l → b₁ ≡ gap_removed (y ++ drop (z.end.0 - 0) b) used (z.end.0 - (used - z.used)) z.end.0
      → left b₁ o₁ l₁ ≡ left_by d b used o l
  block_found y b₁ o o₁ l l₁ g k =
      let i : z.end.0 - (used - z.used) ≡ length f.text = omega (arith, size_is, end-used, front-short) in
      let et : b₁ ≡ renewed b used d.text = rw text-here (tail_found b used z.end.0 f.text front-short end-used hb y b₁ (z.end.0 - (used - z.used)) (ap (λ (v : Left). v.text) g) i k) in
      let eo : o₁ ≡ over d.inverse.payload o = ap (λ (v : Left). v.out) g ∙ ap (λ (v : List ℕ). over v o) payload_here in
      let el : l₁ ≡ over d.inverse.first l = ap (λ (v : Left). v.lens) g ∙ ap (λ (v : List ℕ). over v l) first_here in
      rw (et, eo, el)
