-- The text behind the last row that gets a chunk is moved up by all that comes in; the chunks fill the part before it.
use mathlib.Core.Path.{◌≡◌, sym, ◌∙◌, ap, ap₂}
use mathlib.Core.List.{List, ◌++◌}
use Prim.Native.Nat.{ℕ, ◌+◌, ◌-◌, ◌≤◌}
use native.Mathlib.Nat.{sub-zero}
use native.Mathlib.Omega.{arith}
use lib.ListN.{length, take, drop, length-append, length-take, length-drop}
use Rattle.promise.specs.Slices.{over}
use Rattle.text.specs.declared.Position.{Position}
use Rattle.text.specs.Rows.{row_count, row_start}
use Rattle.text.specs.Text.{is_lf, renewed}
use Rattle.text.proofs.Ended.{Plain}
use Rattle.edit.specs.Edits.{Edited, block_inserted}
use Rattle.edit.specs.Refusals.{is_space, spaces, sum}
use Rattle.edit.proofs.Sizes.{block_inserted-length}
use Rattle.splice.proofs.Rooms.{opened, opened-length, opened-front, moved_up}
use Rattle.blocks.specs.Blocks.{last_end, Left, left, put_from, left_by}
use Rattle.blocks.proofs.Local.{Local, local}

module _ (b : List ℕ) (used : ℕ) (p : Position) (x ns : List ℕ) (size e : ℕ) (hu : used ≤ length b) (hr : length ns ≤ row_count is_lf (take used b) - p.row.0) (hx : sum ns ≤ length x)
    (es : size ≡ length (put_from b used p x ns).text) (ee : e ≡ last_end (take used b) p.row.0 (length ns)) (room : size ≤ length b) where
  cut : Local (take used b) p.row.0 p.col.0 x ns e
  cut = rw ee (local (take used b) p.row.0 p.col.0 x ns hr)

  pub extent_fits : (e ≤ used) × (used ≤ size)
  extent_fits = (omega (arith, cut.within, length-take used b), omega (arith, es, block_inserted-length (take used b) p x ns hx, length-take used b))

  module _ (b₁ : List ℕ) (e₁ : b₁ ≡ opened b used e (size - used)) where
    abbrev f : List ℕ
    f = take (e + (size - used) - 0) b₁

    opens : used + (size - used) ≤ length b
    opens = omega (arith, extent_fits.1)

    part-is : take e f ≡ take e (take used b)
    part-is = rw (sub-zero, e₁) (opened-front b used e (size - used) extent_fits.0 opens)

    part_length : length f ≡ e + (size - used)
    part_length = rw (sub-zero, e₁) (opened-length b used e (size - used) extent_fits.0 opens)

    same : put_from f e p x ns ≡ block_inserted is_lf is_space spaces (take e (take used b)) p x ns
    same = rw part-is

    abbrev w : List ℕ
    w = (block_inserted is_lf is_space spaces (take e (take used b)) p x ns).text

    fills : length w ≡ e + (size - used)
    fills = omega (arith, ap length cut.text, length-append w (drop e (take used b)), length-drop e (take used b), length-take used b, cut.within, extent_fits.1)

    pub front-asked : (s : ℕ) → s ≡ row_start is_lf (take used b) p.row.0 → p.row.0 ≤ 1_000_000 → length ns ≤ 256 → Plain x → size ≤ 16_384 → (q : List ℕ) → length ns ≤ length q
        → (e ≤ length f) × (s ≡ row_start is_lf (take e f) p.row.0) × (p.row.0 ≤ 1_000_000) × (length ns ≤ 256) × (length ns ≤ row_count is_lf (take e f) - p.row.0) × (sum ns ≤ length x) × Plain x
        × (length (put_from f e p x ns).text ≤ length f) × (length (put_from f e p x ns).text ≤ 16_384) × (length ns ≤ length q)
    front-asked s eb h₁ h₂ h₃ h₄ q h₅ =
        (omega (arith, part_length), rw part-is (eb ∙ sym cut.start), h₁, h₂, rw part-is cut.rows, hx, h₃, rw same (omega (arith, part_length, fills)), rw same (omega (arith, fills, extent_fits)), h₅)

    pub chunks_put : (s q q₁ : List ℕ) → left s q₁ ≡ left_by (put_from f e p x ns) f e q → left (s ++ drop (e + (size - used) - 0) b₁) q₁ ≡ left_by (put_from b used p x ns) b used q
    chunks_put s q q₁ k =
        let d : (put_from f e p x ns).inverse.second ≡ (put_from b used p x ns).inverse.second = ap (λ (z : Edited ℕ). z.inverse.second) same ∙ cut.pads in
        ap₂ {C = Left} left
        (rw (ap (λ (z : Left). z.text) k, same, sub-zero, e₁) (moved_up b used e (size - used) extent_fits.0 opens w fills) ∙ ap (renewed b used) cut.text)
        (ap (λ (z : Left). z.pads) k ∙ ap (λ (z : List ℕ). over z q) d)
