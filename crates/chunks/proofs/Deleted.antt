-- A chunk delete reaches the rows that there are: the widths past the last row change nothing, and give empty chunks.
use mathlib.Core.Path.{◌≡◌, refl, sym, ◌∙◌, ap}
use mathlib.Core.List.{List, [], ◌∷◌, ◌++◌, map, flatten}
use Prim.Native.Nat.{ℕ, zero, suc, ◌+◌, ◌-◌, ◌≤◌, ◌%◌, ◌^◌, min}
use native.Mathlib.Nat.{sub-zero}
use native.Mathlib.Omega.{arith}
use lib.ListN.{length, take, drop, replicate, length-take, length-drop}
use lib.Seq.{paste}
use Rattle.promise.specs.Slices.{over}
use Rattle.text.specs.declared.Position.{Position}
use Rattle.text.specs.Rows.{Line, lines, at, row_count, clamp}
use Rattle.text.specs.Text.{is_lf, renewed}
use Rattle.text.proofs.Renewed.{renewed-text}
use Rattle.splice.proofs.Overs.{zeros_behind}
use Rattle.edit.specs.declared.View.{View}
use Rattle.edit.specs.declared.MotionKind.TheVariants.{Block}
use Rattle.edit.specs.declared.Edit.TheVariants.{InsertBlock}
use Rattle.edit.specs.declared.Room.{Room}
use Rattle.edit.specs.Edits.{Edited, cut_all, chunks_of, chunks_deleted, height, breadth, range_deleted}
use Rattle.edit.specs.Refusals.{is_space, spaces}
use Rattle.edit.specs.Call.{plan_of, applied_as}
use Rattle.edit.proofs.Workers.{Fits}
use Rattle.chunks.specs.declared.Sizes.{Sizes}
use Rattle.chunks.specs.Chunks.{sizes_of, Left, left, cut_from, left_by}
use Rattle.chunks.proofs.Cuts.{first_length}

-- ---- rows

cut_reached : (c m : ℕ) (ws ds : List ℕ) (rs : List (Line ℕ)) → m ≡ min (length ws) (length rs) → cut_all c (take m ws) ds rs ≡ cut_all c ws ds rs
unfolding cut_all
cut_reached c zero [] ds rs e = refl
cut_reached c (suc m) [] ds rs e = refl
cut_reached c zero (w ∷ ws) ds [] e = refl
cut_reached c zero (w ∷ ws) ds (r ∷ rs) e = absurd (omega arith)
cut_reached c (suc m) (w ∷ ws) ds [] e = refl
cut_reached c (suc m) (w ∷ ws) ds (r ∷ rs) e = rw (cut_reached c m ws (drop 1 ds) rs (omega arith))

-- chunks of absent rows are empty
none_payload : (c : ℕ) (ws : List ℕ) → flatten (chunks_of {A = ℕ} c ws []) ≡ []
unfolding chunks_of flatten
none_payload c [] = refl
none_payload c (w ∷ ws) = none_payload c ws

none_long : (c : ℕ) (ws : List ℕ) → map length (chunks_of {A = ℕ} c ws []) ≡ replicate (length ws) 0
unfolding chunks_of
none_long c [] = refl
none_long c (w ∷ ws) = ap (◌∷◌ 0) (none_long c ws)

payload_reached : (c m : ℕ) (ws : List ℕ) (rs : List (Line ℕ)) → m ≡ min (length ws) (length rs) → flatten (chunks_of c (take m ws) rs) ≡ flatten (chunks_of c ws rs)
unfolding chunks_of flatten
payload_reached c zero [] rs e = refl
payload_reached c (suc m) [] rs e = refl
payload_reached c zero (w ∷ ws) [] e = sym (none_payload c ws)
payload_reached c zero (w ∷ ws) (r ∷ rs) e = absurd (omega arith)
payload_reached c (suc m) (w ∷ ws) [] e = absurd (omega arith)
payload_reached c (suc m) (w ∷ ws) (r ∷ rs) e = rw (payload_reached c m ws rs (omega arith))

lens_reached : (c m : ℕ) (ws : List ℕ) (rs : List (Line ℕ)) → m ≡ min (length ws) (length rs)
    → map length (chunks_of c ws rs) ≡ map length (chunks_of c (take m ws) rs) ++ replicate (length ws - m) 0
unfolding chunks_of
lens_reached c zero [] rs e = refl
lens_reached c (suc m) [] rs e = absurd (omega arith)
lens_reached c zero (w ∷ ws) [] e = rw sub-zero (ap (◌∷◌ 0) (none_long c ws))
lens_reached c zero (w ∷ ws) (r ∷ rs) e = absurd (omega arith)
lens_reached c (suc m) (w ∷ ws) [] e = absurd (omega arith)
lens_reached c (suc m) (w ∷ ws) (r ∷ rs) e =
    let z : suc (length ws) - suc m ≡ length ws - m = omega arith in
    rw z (ap (◌∷◌ (length (take w (drop c r.body)))) (lens_reached c m ws rs (omega arith)))

-- ---- the texts

module _ (t : List ℕ) (p : Position) (ws ds : List ℕ) where
  abbrev whole : Edited ℕ
  whole = chunks_deleted is_lf is_space spaces t p ws ds

  module _ (m : ℕ) (e : m ≡ min (length ws) (row_count is_lf t - p.row.0)) where
    abbrev front : Edited ℕ
    front = chunks_deleted is_lf is_space spaces t p (take m ws) ds

    there : m ≡ min (length ws) (length (drop p.row.0 (lines is_lf t)))
    unfolding row_count
    there = rw (length-drop p.row.0 (lines is_lf t)) e

    text-reached : front.text ≡ whole.text
    unfolding chunks_deleted
    text-reached = rw (cut_reached p.col.0 m ws ds (drop p.row.0 (lines is_lf t)) there)

    out_reached : front.inverse.payload ≡ whole.inverse.payload
    unfolding chunks_deleted
    out_reached = payload_reached p.col.0 m ws (drop p.row.0 (lines is_lf t)) there

    first_reached : whole.inverse.first ≡ front.inverse.first ++ replicate (length ws - m) 0
    unfolding chunks_deleted
    first_reached = lens_reached p.col.0 m ws (drop p.row.0 (lines is_lf t)) there

  -- the parts of the record
  cursor_is : whole.cursor ≡ clamp is_lf whole.text p
  unfolding chunks_deleted
  cursor_is = refl

  edit_is : whole.inverse.edit ≡ InsertBlock p
  unfolding chunks_deleted
  edit_is = refl

  pub second_none : whole.inverse.second ≡ []
  unfolding chunks_deleted
  second_none = refl

-- ---- in the code's words

module _ (b : List ℕ) (used : ℕ) (p : Position) (ws ds : List ℕ) (m : ℕ) (em : m ≡ min (length ws) (row_count is_lf (take (used - 0) b) - p.row.0)) where
  abbrev d : Edited ℕ
  d = cut_from b used p ws ds

  abbrev f : Edited ℕ
  f = cut_from b used p (take (m - 0) ws) ds

  rows-found : m ≡ min (length ws) (row_count is_lf (take used b) - p.row.0)
  rows-found = rw sub-zero at em

  front-text : f.text ≡ d.text
  front-text = rw sub-zero (text-reached (take used b) p ws ds m rows-found)

  front_out : f.inverse.payload ≡ d.inverse.payload
  front_out = rw sub-zero (out_reached (take used b) p ws ds m rows-found)

  front-first : d.inverse.first ≡ f.inverse.first ++ replicate (length ws - m) 0
  front-first = rw sub-zero (first_reached (take used b) p ws ds m rows-found)

  front_length : length (take (m - 0) ws) ≡ m
  front_length = length-take (m - 0) ws ∙ omega (arith, rows-found)

  module _ (z : Sizes) (es : z ≡ sizes_of (take (used - 0) b) p (take (m - 0) ws) ds) where
    sizes_given : z ≡ sizes_of (take used b) p (take (m - 0) ws) ds
    sizes_given = let q : take (used - 0) b ≡ take used b = rw sub-zero in rw q at es

    sizes_found : (z.used ≡ length d.text) × (z.payload ≡ length d.inverse.payload)
    sizes_found =
        let e = sizes_given in
        (ap (λ (y : Sizes). y.used) e ∙ ap length front-text, ap (λ (y : Sizes). y.payload) e ∙ ap length front_out)

    pub plan_found : plan_of d ≡ record { used = z.used; payload = z.payload; first = length ws; second = 0 }
    plan_found = let s = sizes_found in rw (s.0, s.1, first_length (take used b) p.row.0 p.col.0 ws ds, second_none (take used b) p ws ds)

    pub room_found : (R : Room) → Fits R d → (o l : List ℕ) → R.buffer ≡ length b → R.payload ≡ length o → R.first ≡ length l
        → (z.used ≤ length b) × (z.used ≤ 16_384) × (length d.inverse.payload ≤ length o) × (length ws ≤ length l)
    room_found R k o l hb ho hl =
        let s = sizes_found in
        (omega (arith, s.0, k.buffer), omega (arith, s.0, k.limit), omega (arith, k.payload), omega (arith, k.first, first_length (take used b) p.row.0 p.col.0 ws ds))

  pub rows-asked : used ≤ length b → used ≤ 16_384 → p.row.0 ≤ 1_000_000 → length ws ≤ 256 → (o l : List ℕ) → length d.inverse.payload ≤ length o → length ws ≤ length l
      → (z : Sizes) → z ≡ sizes_of (take (used - 0) b) p (take (m - 0) ws) ds
      → (used ≤ length b) × (used ≤ 16_384) × (p.row.0 ≤ 1_000_000) × (length (take (m - 0) ws) ≤ 256) × (length (take (m - 0) ws) ≤ row_count is_lf (take used b) - p.row.0)
      × (length f.inverse.payload ≤ length o) × (length (take (m - 0) ws) ≤ length l) × (z ≡ sizes_of (take used b) p (take (m - 0) ws) ds)
  rows-asked hb hu hr hw o l ho hl z es =
      let n = front_length in
      (hb, hu, hr, omega (arith, rows-found), omega (arith, rows-found), rw front_out ho, omega (arith, rows-found), sizes_given z es)

  -- b₁, o₁ and l₁ are left by the loop, l₂ by the fill
  module _ (b₁ o o₁ l l₁ l₂ : List ℕ) (e : left b₁ o₁ l₁ ≡ left_by f b used o l) where
    pub text-found : b₁ ≡ renewed b used d.text
    text-found = ap (λ (y : Left). y.text) e ∙ ap (renewed b used) front-text

    pub out_found : o₁ ≡ over d.inverse.payload o
    out_found = ap (λ (y : Left). y.out) e ∙ ap (λ (y : List ℕ). over y o) front_out

    pub lens_found : l₂ ≡ paste l₁ m (replicate (length ws - m) 0) (length ws - m) → l₂ ≡ over d.inverse.first l
    lens_found e₂ =
        let n : length f.inverse.first ≡ m = first_length (take used b) p.row.0 p.col.0 (take (m - 0) ws) ds ∙ front_length in
        rw front-first (e₂ ∙ ap (λ (y : List ℕ). paste y m (replicate (length ws - m) 0) (length ws - m)) (ap (λ (y : Left). y.lens) e) ∙ zeros_behind f.inverse.first l m (length ws - m) n)

    module _ (z : Sizes) (es : z ≡ sizes_of (take (used - 0) b) p (take (m - 0) ws) ds) where
      cursor_found : clamp is_lf (take (z.used - 0) b₁) p ≡ clamp is_lf d.text p
      cursor_found = rw (sub-zero, (sizes_found z es).0, text-found, renewed-text b used d.text)

      pub applied-found : (v : View) (k : Position) (w : View) → k ≡ clamp is_lf (take (z.used - 0) b₁) p → w ≡ record { used = z.used; cursor = k; changes = (v.changes + 1) % 2 ^ 64 }
          → record { view = w; inverse = InsertBlock p; payload = z.payload; first = length ws; second = 0 } ≡ applied_as v d
      applied-found v k w ek ew =
          let s = sizes_found z es in
          rw (ew, ek, cursor_found, s.0, s.1, cursor_is (take used b) p ws ds, edit_is (take used b) p ws ds, second_none (take used b) p ws ds, first_length (take used b) p.row.0 p.col.0 ws ds)

-- ---- a Block delete

take-replicate : (h n x : ℕ) → h ≤ n → take h (replicate n x) ≡ replicate h x
take-replicate zero n x k = refl
take-replicate (suc h) zero x k = absurd (omega arith)
take-replicate (suc h) (suc n) x k = ap (◌∷◌ x) (take-replicate h n x (omega arith))

pub block_found : (t : List ℕ) (p q : Position) (h w r c : ℕ) → h ≡ height p q → w ≡ breadth p q → r ≡ min p.row.0 q.row.0 → c ≡ min p.col.0 q.col.0 → height p q ≤ 256
    → chunks_deleted is_lf is_space spaces t (at r c) (take (h - 0) (replicate 256 w)) [] ≡ range_deleted is_lf is_space spaces t p q Block
unfolding range_deleted
block_found t p q h w r c eh ew er ec k = rw (sub-zero, er, ec, ew, eh, take-replicate (height p q) 256 (breadth p q) k)
