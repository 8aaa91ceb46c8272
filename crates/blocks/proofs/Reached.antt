-- A block insert reaches the rows that there are: the chunks past the last row change nothing, and are recorded.
use mathlib.Core.Path.{◌≡◌, refl, sym, ◌∙◌, ap}
use mathlib.Core.List.{List, [], ◌∷◌, ◌++◌}
use Prim.Native.Nat.{ℕ, zero, suc, ◌+◌, ◌-◌, ◌≤◌, ◌%◌, ◌^◌, min}
use native.Mathlib.Nat.{sub-zero}
use native.Mathlib.Omega.{arith}
use lib.ListN.{length, take, drop, replicate, length-take, length-drop}
use lib.Seq.{paste}
use Rattle.promise.specs.Slices.{over}
use Rattle.text.specs.declared.Position.{Position}
use Rattle.text.specs.Rows.{Line, lines, row_count, row_start, clamp}
use Rattle.text.specs.Text.{is_lf, renewed}
use Rattle.text.proofs.Ended.{Plain}
use Rattle.text.proofs.Renewed.{renewed-text}
use Rattle.splice.proofs.Overs.{paste-over, zeros_behind}
use Rattle.edit.specs.declared.View.{View}
use Rattle.edit.specs.declared.Edit.TheVariants.{DeleteBlockChunks}
use Rattle.edit.specs.declared.Room.{Room}
use Rattle.edit.specs.Edits.{Edited, put_all, pads_of, pieces, block_inserted}
use Rattle.edit.specs.Refusals.{is_space, spaces, sum}
use Rattle.edit.specs.Call.{plan_of, applied_as}
use Rattle.edit.proofs.Workers.{Fits}
use Rattle.blocks.specs.Blocks.{last_end, Left, left, put_from, left_by}
use Rattle.blocks.proofs.Puts.{inserted, pads_length}

-- ---- rows

put-reached : (c m : ℕ) (ns x : List ℕ) (rs : List (Line ℕ)) → m ≡ min (length ns) (length rs) → put_all 32 c (pieces (take m ns) x) rs ≡ put_all 32 c (pieces ns x) rs
unfolding put_all pieces
put-reached c zero [] x rs e = refl
put-reached c (suc m) [] x rs e = refl
put-reached c zero (n ∷ ns) x [] e = refl
put-reached c zero (n ∷ ns) x (r ∷ rs) e = absurd (omega arith)
put-reached c (suc m) (n ∷ ns) x [] e = refl
put-reached c (suc m) (n ∷ ns) x (r ∷ rs) e = rw (put-reached c m ns (drop n x) rs (omega arith))

pads_absent : (c : ℕ) (ns x : List ℕ) → pads_of c (pieces ns x) [] ≡ replicate (length ns) 0
unfolding pads_of pieces
pads_absent c [] x = refl
pads_absent c (n ∷ ns) x = ap (◌∷◌ 0) (pads_absent c ns (drop n x))

pads_reached : (c m : ℕ) (ns x : List ℕ) (rs : List (Line ℕ)) → m ≡ min (length ns) (length rs)
    → pads_of c (pieces ns x) rs ≡ pads_of c (pieces (take m ns) x) rs ++ replicate (length ns - m) 0
unfolding pads_of pieces
pads_reached c zero [] x rs e = refl
pads_reached c (suc m) [] x rs e = absurd (omega arith)
pads_reached c zero (n ∷ ns) x [] e = rw sub-zero (ap (◌∷◌ 0) (pads_absent c ns (drop n x)))
pads_reached c zero (n ∷ ns) x (r ∷ rs) e = absurd (omega arith)
pads_reached c (suc m) (n ∷ ns) x [] e = absurd (omega arith)
pads_reached c (suc m) (n ∷ ns) x (r ∷ rs) e =
    let z : suc (length ns) - suc m ≡ length ns - m = omega arith in
    rw z (ap (◌∷◌ (c - length r.body)) (pads_reached c m ns (drop n x) rs (omega arith)))

sum-take : (m : ℕ) (ns : List ℕ) → sum (take m ns) ≤ sum ns
unfolding sum
sum-take zero ns = omega arith
sum-take (suc m) [] = omega arith
sum-take (suc m) (n ∷ ns) = omega (arith, sum-take m ns)

-- ---- the texts

module _ (t : List ℕ) (r c : ℕ) (x ns : List ℕ) (m : ℕ) (e : m ≡ min (length ns) (row_count is_lf t - r)) where
  there : m ≡ min (length ns) (length (drop r (lines is_lf t)))
  unfolding row_count
  there = rw (length-drop r (lines is_lf t)) e

  text-reached : (inserted t r c x (take m ns)).text ≡ (inserted t r c x ns).text
  unfolding block_inserted
  text-reached = rw (put-reached c m ns x (drop r (lines is_lf t)) there)

  second_reached : (inserted t r c x ns).inverse.second ≡ (inserted t r c x (take m ns)).inverse.second ++ replicate (length ns - m) 0
  unfolding block_inserted
  second_reached = pads_reached c m ns x (drop r (lines is_lf t)) there

-- the parts of the record
module _ (t : List ℕ) (p : Position) (x ns : List ℕ) where
  abbrev whole : Edited ℕ
  whole = block_inserted is_lf is_space spaces t p x ns

  cursor_is : whole.cursor ≡ clamp is_lf whole.text p
  unfolding block_inserted
  cursor_is = refl

  edit_is : whole.inverse.edit ≡ DeleteBlockChunks p
  unfolding block_inserted
  edit_is = refl

  pub payload_none : whole.inverse.payload ≡ []
  unfolding block_inserted
  payload_none = refl

  pub first_is : whole.inverse.first ≡ ns
  unfolding block_inserted
  first_is = refl

inserted-plan : (t : List ℕ) (r c : ℕ) (x ns : List ℕ) (size : ℕ) → size ≡ length (inserted t r c x ns).text
    → plan_of (inserted t r c x ns) ≡ record { used = size; payload = 0; first = length ns; second = length ns }
unfolding block_inserted
inserted-plan t r c x ns size e = rw (e, pads_length t r c x ns)

-- ---- what is stored

pub widths_found : (t : List ℕ) (p : Position) (x ns w : List ℕ) → paste w 0 ns (length ns) ≡ over (whole t p x ns).inverse.first w
widths_found t p x ns w = rw (first_is t p x ns) (paste-over w ns)

-- ---- in the code's words

module _ (b : List ℕ) (used : ℕ) (p : Position) (x ns : List ℕ) (m size : ℕ) (em : m ≡ min (length ns) (row_count is_lf (take (used - 0) b) - p.row.0)) where
  abbrev t : List ℕ
  t = take used b

  abbrev d : Edited ℕ
  d = put_from b used p x ns

  abbrev Sized : Type 0
  Sized = (y : List ℕ) → sum (take (m - 0) ns) ≤ length y → size ≡ length (block_inserted is_lf is_space spaces (take (used - 0) b) p y (take (m - 0) ns)).text

  rows-found : m ≡ min (length ns) (row_count is_lf t - p.row.0)
  rows-found = rw sub-zero at em

  front-found : (put_from b used p x (take (m - 0) ns)).text ≡ d.text
  front-found = rw sub-zero (text-reached t p.row.0 p.col.0 x ns m rows-found)

  module _ (hx : sum ns ≡ length x) (es : Sized) where
    pub size_found : size ≡ length d.text
    size_found = rw (sub-zero, sub-zero) at (es x (rw sub-zero (omega (arith, sum-take m ns)))) ∙ ap length (text-reached t p.row.0 p.col.0 x ns m rows-found)

    pub plan_found : plan_of d ≡ record { used = size; payload = 0; first = length ns; second = length ns }
    plan_found = inserted-plan t p.row.0 p.col.0 x ns size size_found

    pub room_found : (R : Room) → Fits R d → (w q : List ℕ) → R.buffer ≡ length b → R.first ≡ length w → R.second ≡ length q
        → (size ≤ length b) × (size ≤ 16_384) × (length ns ≤ length w) × (length ns ≤ length q)
    room_found R f w q hb hw hq =
        (omega (arith, size_found, f.buffer), omega (arith, size_found, f.limit), omega (arith, f.first, ap length (first_is t p x ns)), omega (arith, f.second, pads_length t p.row.0 p.col.0 x ns))

    pub chunks_asked : (s : ℕ) → s ≡ row_start is_lf (take (used - 0) b) p.row.0 → (e : ℕ) → e ≡ last_end (take (used - 0) b) p.row.0 (length (take (m - 0) ns)) → used ≤ length b → p.row.0 ≤ 1_000_000 → length ns ≤ 256 → Plain x
        → size ≤ length b → size ≤ 16_384 → (q : List ℕ) → length ns ≤ length q
        → (used ≤ length b) × (p.row.0 ≤ 1_000_000) × (length (take (m - 0) ns) ≤ 256) × (length (take (m - 0) ns) ≤ row_count is_lf t - p.row.0) × (sum (take (m - 0) ns) ≤ length x) × Plain x
        × (size ≡ length (put_from b used p x (take (m - 0) ns)).text) × (s ≡ row_start is_lf t p.row.0) × (e ≡ last_end t p.row.0 (length (take (m - 0) ns))) × (size ≤ length b) × (size ≤ 16_384)
        × (length (take (m - 0) ns) ≤ length q)
    chunks_asked s eb e ee hu hr hn hp hb hl q hq =
        let l : length (take (m - 0) ns) ≡ m = length-take (m - 0) ns ∙ omega (arith, rows-found) in
        (hu, hr, omega arith, omega (arith, rows-found), rw sub-zero (omega (arith, sum-take m ns)), hp, size_found ∙ sym (ap length front-found), eb ∙ rw sub-zero, ee ∙ rw sub-zero, hb, hl, omega (arith, rows-found))

    -- b₁ and q₁ are left by the loop, q₂ by the fill
    module _ (b₁ q q₁ q₂ : List ℕ) (e : left b₁ q₁ ≡ left_by (put_from b used p x (take (m - 0) ns)) b used q) where
      pub text-found : b₁ ≡ renewed b used d.text
      text-found = ap (λ (y : Left). y.text) e ∙ ap (renewed b used) front-found

      cursor_found : clamp is_lf (take (size - 0) b₁) p ≡ clamp is_lf d.text p
      cursor_found = rw (sub-zero, size_found, text-found, renewed-text b used d.text)

      pub pads_found : q₂ ≡ paste q₁ m (replicate (length ns - m) 0) (length ns - m) → q₂ ≡ over d.inverse.second q
      pads_found e₂ =
          let P : List ℕ = (put_from b used p x (take m ns)).inverse.second in
          let l : length P ≡ m = pads_length t p.row.0 p.col.0 x (take m ns) ∙ length-take m ns ∙ omega (arith, rows-found) in
          let z : q₁ ≡ over P q = rw sub-zero at (ap (λ (y : Left). y.pads) e) in
          rw (second_reached t p.row.0 p.col.0 x ns m rows-found) (e₂ ∙ ap (λ (y : List ℕ). paste y m (replicate (length ns - m) 0) (length ns - m)) z ∙ zeros_behind P q m (length ns - m) l)

      pub applied-found : (v : View) (k : Position) (w : View) → k ≡ clamp is_lf (take (size - 0) b₁) p → w ≡ record { used = size; cursor = k; changes = (v.changes + 1) % 2 ^ 64 }
          → record { view = w; inverse = DeleteBlockChunks p; payload = 0; first = length ns; second = length ns } ≡ applied_as v d
      applied-found v k w ek ew =
          rw (ew, ek, cursor_found, size_found, cursor_is t p x ns, edit_is t p x ns, payload_none t p x ns, first_is t p x ns, pads_length t p.row.0 p.col.0 x ns)
