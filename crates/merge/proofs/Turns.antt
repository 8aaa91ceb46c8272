-- The turns of collapse: what is written, and what is still to come.
use mathlib.Core.Bool.{true, false}
use mathlib.Core.List.{List, [], ◌∷◌}
use mathlib.Core.Path.{◌≡◌, refl, ap, ◌∙◌}
use Prim.Native.Nat.{ℕ, ◌+◌, ◌*◌, ◌≤◌, ◌<◌}
use native.Mathlib.Numerals.{add-one}
use native.Mathlib.Omega.{arith}
use lib.ListN.{length, drop, length-drop, drop_of_length-le}
use lib.Seq.{drop-cons}
use Rattle.promise.specs.Slices.{over}
use Rattle.select.specs.declared.Sel.{Sel}
use Rattle.select.specs.Sels.{overlaps}
use Rattle.sorting.specs.Flat.{flat, sels}
use Rattle.sorting.specs.Weaving.{sel_at, put_at}
use Rattle.sorting.proofs.Flats.{none, Fours, stop, four, fours, length-flat, length-sels, at-sels, Written, put_next, all-out}
use Rattle.merge.specs.Merging.{merge_two, collapsed, collapse}
use Rattle.merge.proofs.Collapsed.{collapsed-over, collapsed-past}

-- after i of the selections in s, with `last` still open
pub record Turning (s out₀ out : List ℕ) (last : Sel) (count i : ℕ) : Type 0 where
  pub written : Written out (collapse (sels s)) out₀ count
  pub rest : drop count (collapse (sels s)) ≡ collapsed last (drop i (sels s))

pub turning_none : (s : List ℕ) → length s ≡ 4 * 0 → collapse (sels s) ≡ []
unfolding sels collapse
turning_none [] e = refl
turning_none (a ∷ s) e = absurd (omega arith)

first : {n : ℕ} {s : List ℕ} → Fours n s → (n ≡ 0 → ⊥) → collapse (sels s) ≡ collapsed (sel_at s 0) (drop 1 (sels s))
unfolding sels collapse
first stop h = absurd (h refl)
first (four n a b c d f) h = refl

pub turning_first : (s out₀ : List ℕ) (n : ℕ) (last : Sel) → length s ≡ 4 * n → (n ≡ 0 → ⊥) → last ≡ sel_at s (4 * 0) → Turning s out₀ out₀ last 0 1
unfolding flat
turning_first s out₀ n last l h e = record { written = refl; rest = rw e (first (fours n s l) h) }

module _ (s : List ℕ) (n : ℕ) (l : length s ≡ 4 * n) (out₀ out : List ℕ) (last next : Sel) (count i : ℕ) (t : Turning s out₀ out last count i) (h : i < n) (e : next ≡ sel_at s (4 * i)) where
  ahead : drop i (sels s) ≡ next ∷ drop (i + 1) (sels s)
  ahead =
      let f = fours n s l in
      rw (add-one, e, at-sels i f h) (drop-cons (sels s) i none (omega (arith, length-sels f)))

  pub turn_merge : overlaps last next ≡ true → Turning s out₀ out (merge_two last next) count (i + 1)
  turn_merge o = record { written = t.written; rest = t.rest ∙ rw ahead (collapsed-over last next (drop (i + 1) (sels s)) o) }

  pub turn_put : overlaps last next ≡ false → 4 * count + 4 ≤ length out₀ → Turning s out₀ (put_at out (4 * count) last) next (count + 1) (i + 1)
  turn_put o k =
      let p = put_next (collapse (sels s)) (collapsed next (drop (i + 1) (sels s))) out₀ out count last (t.rest ∙ rw ahead (collapsed-past last next (drop (i + 1) (sels s)) o)) k t.written in
      record { written = p.0; rest = p.1 }

-- the last one goes out
pub turning_done : (s : List ℕ) (n : ℕ) → length s ≡ 4 * n → (out₀ out : List ℕ) (last : Sel) (count i : ℕ) → Turning s out₀ out last count i → n ≤ i → 4 * count + 4 ≤ length out₀
    → (count + 1 ≡ length (collapse (sels s))) × (put_at out (4 * count) last ≡ over (flat (collapse (sels s))) out₀)
unfolding collapsed
turning_done s n l out₀ out last count i t h k =
    let m : List Sel = collapse (sels s) in
    let e : length (sels s) ≤ i = omega (arith, length-sels (fours n s l)) in
    let d : drop i (sels s) ≡ [] = drop_of_length-le (sels s) e in
    let r : drop count m ≡ last ∷ [] = t.rest ∙ rw d in
    let p = put_next m [] out₀ out count last r k t.written in
    let long : count + 1 ≡ length m = omega (arith, rw length-drop at (ap length r)) in
    (long, all-out m out₀ _ (count + 1) (omega arith) p.0 ∙ rw (long, length-flat m))
