-- The bytes of lists, item by item.
use mathlib.Core.Path.{◌≡◌, refl, sym, ap, ◌∙◌}
use mathlib.Core.Bool.{Bool, true, false, cond}
use mathlib.Core.List.{List, [], ◌∷◌, ◌++◌}
use Prim.Native.Nat.{ℕ, ◌+◌, ◌-◌, ◌*◌, ◌≤◌, ◌<◌}
use native.Mathlib.Omega.{arith}
use borrow.Author.Tests.{leb-true}
use lib.Dec.{leb}
use lib.ListN.{length, take, drop, get_or, length-append, length-drop, drop_of_length-le, take-append-drop}
use lib.Seq.{drop-drop, paste}
use Rattle.promise.specs.Paper.{done, refused}
use Rattle.promise.specs.Slices.{over}
use Rattle.promise.proofs.Bools.{both}
use Rattle.promise.proofs.Lists.{next}
use Rattle.text.specs.Text.{all}
use Rattle.utf8.specs.Reading.{all_scalar, writing}
use Rattle.utf8.specs.Calls.{octet_count}
use Rattle.utf8.proofs.Parts.{scalars_append, writing-append}
use Rattle.edit.specs.Edits.{pieces}
use Rattle.edit.specs.Refusals.{sum}
use Rattle.frame.specs.Numbers.{number}
use Rattle.frame.specs.Format.{column_bytes, width_bytes, chunk_bytes}
use Rattle.frame_bytes.proofs.Pasted.{Filled, fill_none, fill_room, fill_more, fill_end}

none-left : (v : List ℕ) → length v ≡ 0 → v ≡ []
none-left [] h = refl
none-left (x ∷ v) h = absurd (omega arith)

-- what was counted of no UTF-8
pub counted-bad : (cs : List ℕ) → refused 1 0 ≡ octet_count cs → all_scalar cs ≡ false
unfolding octet_count
counted-bad cs e = go (all_scalar cs) e
  where
    go : (b : Bool) → refused 1 0 ≡ cond b (done (length (writing cs))) (refused 1 0) → b ≡ false
    go true e = let z : ◌≡◌ {A = ℕ} 0 1 = cc in absurd (omega arith)
    go false e = refl

-- ---- columns with flags

pub columns-length : (f s : List ℕ) → length (column_bytes f s) ≡ 5 * length f
unfolding column_bytes
columns-length [] s = refl
columns-length (c ∷ f) s = omega (arith, columns-length f (drop 1 s))

columns-next : (c a : ℕ) (x y : List ℕ) → column_bytes (c ∷ x) (a ∷ y) ≡ (number c ++ (a ∷ [])) ++ column_bytes x y
unfolding column_bytes
columns-next c a x y = refl

-- n columns stand in t, and those of v with the flags of w are still to come
abbrev pub Columned : List ℕ → List ℕ → List ℕ → List ℕ → ℕ → List ℕ → List ℕ → Type 0
Columned f s b t n v w = (length v ≡ length w) × (all (λ b. leb b 1) w ≡ true) × Filled (column_bytes f s) b t (5 * n) (column_bytes v w)

pub columns-start : (f s b v w : List ℕ) (n : ℕ) → length f ≡ length s → all (λ b. leb b 1) s ≡ true → v ≡ f → w ≡ s → n ≡ 0 → Columned f s b b n v w
columns-start f s b v w n l a d e z = rw (d, e, z) (l, a, fill_none (column_bytes f s) b)

module _ (f s b t v w : List ℕ) (n : ℕ) (q : Columned f s b t n v w) where
  module _ (c a : ℕ) (x y : List ℕ) (d : v ≡ c ∷ x) (e : w ≡ a ∷ y) where
    columns-left : column_bytes v w ≡ (number c ++ (a ∷ [])) ++ column_bytes x y
    columns-left = rw (d, e) (columns-next c a x y)

    columns-flags : (a ≤ 1) × (all (λ b. leb b 1) y ≡ true)
    unfolding all
    columns-flags = let h = both (leb a 1) (all (λ b. leb b 1) y) (rw e at q.1) in (leb-true a 1 h.0, h.1)

    pub columns-room : (5 * n + 5 ≤ 5 * length f) × (a ≤ 1)
    columns-room = (omega (arith, columns-length f s, fill_room (column_bytes f s) b t (number c ++ (a ∷ [])) (column_bytes x y) (column_bytes v w) (5 * n) 5 refl columns-left q.2), columns-flags.0)

    pub columns-more : (m : ℕ) (u : List ℕ) → m ≡ n + 1 → 5 * length f ≤ length b → u ≡ paste t (5 * n) (number c ++ (a ∷ [])) 5 → Columned f s b u m x y
    columns-more m u i h p =
        let k : 5 * m ≡ 5 * n + 5 = omega arith in
        let l : length x ≡ length y = omega (arith, q.0, ap length d, ap length e) in
        rw k (l, columns-flags.1, fill_more (column_bytes f s) b t (number c ++ (a ∷ [])) (column_bytes x y) (column_bytes v w) (5 * n) 5 refl columns-left q.2 u (rw (columns-length f s) h) p)

  pub columns-done : length v ≡ 0 → t ≡ over (column_bytes f s) b
  unfolding column_bytes
  columns-done h = fill_end (column_bytes f s) b t (column_bytes v w) (5 * n) (rw (none-left v h)) q.2

-- ---- widths with pads

pub widths_length : (f s : List ℕ) → length (width_bytes f s) ≡ 8 * length f
unfolding width_bytes
widths_length [] s = refl
widths_length (w ∷ f) s = omega (arith, widths_length f (drop 1 s))

widths_next : (c a : ℕ) (x y : List ℕ) → width_bytes (c ∷ x) (a ∷ y) ≡ (number c ++ number a) ++ width_bytes x y
unfolding width_bytes
widths_next c a x y = refl

-- n widths with their pads stand in t, and those of v and w are still to come
abbrev pub Widened : List ℕ → List ℕ → List ℕ → List ℕ → ℕ → List ℕ → List ℕ → Type 0
Widened f s b t n v w = (length v ≡ length w) × Filled (width_bytes f s) b t (8 * n) (width_bytes v w)

pub widths_start : (f s b v w : List ℕ) (n : ℕ) → length f ≡ length s → v ≡ f → w ≡ s → n ≡ 0 → Widened f s b b n v w
widths_start f s b v w n l d e z = rw (d, e, z) (l, fill_none (width_bytes f s) b)

module _ (f s b t v w : List ℕ) (n : ℕ) (q : Widened f s b t n v w) where
  module _ (c a : ℕ) (x y : List ℕ) (d : v ≡ c ∷ x) (e : w ≡ a ∷ y) where
    widths_left : width_bytes v w ≡ (number c ++ number a) ++ width_bytes x y
    widths_left = rw (d, e) (widths_next c a x y)

    pub widths_room : 8 * n + 8 ≤ 8 * length f
    widths_room = omega (arith, widths_length f s, fill_room (width_bytes f s) b t (number c ++ number a) (width_bytes x y) (width_bytes v w) (8 * n) 8 refl widths_left q.1)

    pub widths_more : (m : ℕ) (u : List ℕ) → m ≡ n + 1 → 8 * length f ≤ length b → u ≡ paste t (8 * n) (number c ++ number a) 8 → Widened f s b u m x y
    widths_more m u i h p =
        let k : 8 * m ≡ 8 * n + 8 = omega arith in
        let l : length x ≡ length y = omega (arith, q.0, ap length d, ap length e) in
        rw k (l, fill_more (width_bytes f s) b t (number c ++ number a) (width_bytes x y) (width_bytes v w) (8 * n) 8 refl widths_left q.1 u (rw (widths_length f s) h) p)

  pub widths_done : length v ≡ 0 → t ≡ over (width_bytes f s) b
  unfolding width_bytes
  widths_done h = fill_end (width_bytes f s) b t (width_bytes v w) (8 * n) (rw (none-left v h)) q.1

-- ---- chunks with the lengths of their UTF-8

-- a chunk's bytes
abbrev pub chunk : List ℕ → List ℕ
chunk k = number (length (writing k)) ++ writing k

chunk_length : (k : List ℕ) → length (chunk k) ≡ 4 + length (writing k)
chunk_length k = omega arith

pub chunks_length : (ns x : List ℕ) → sum ns ≡ length x → length (chunk_bytes (pieces ns x)) ≡ 4 * length ns + length (writing x)
unfolding chunk_bytes pieces sum writing
chunks_length [] [] e = refl
chunks_length [] (c ∷ x) e = absurd (omega arith)
chunks_length (n ∷ ns) x e =
    let r = chunks_length ns (drop n x) (simp length-drop (omega arith)) in
    let l : length (writing x) ≡ length (writing (take n x)) + length (writing (drop n x)) =
    ap (λ (z : List ℕ). length (writing z)) (sym (take-append-drop n x)) ∙ ap length (writing-append (take n x) (drop n x)) ∙ length-append (writing (take n x)) (writing (drop n x)) in
    omega (arith, length-append (writing (take n x)) (chunk_bytes (pieces ns (drop n x))))

chunks_end : (ns x : List ℕ) (i : ℕ) → length ns ≤ i → chunk_bytes (pieces (drop i ns) x) ≡ []
unfolding chunk_bytes pieces
chunks_end ns x i h = rw (drop_of_length-le ns h)

-- The chunk at i begins at `from`, and ends at `end`.
module _ (ns x : List ℕ) (i from end : ℕ) (h : i < length ns) (e : end ≡ from + get_or ns i 0) where
  chunks_next : chunk_bytes (pieces (drop i ns) (drop from x)) ≡ chunk (take (end - from) (drop from x)) ++ chunk_bytes (pieces (drop (i + 1) ns) (drop end x))
  unfolding chunk_bytes pieces
  chunks_next =
      let z : end - from ≡ get_or ns i 0 = omega arith in
      let d : drop (get_or ns i 0) (drop from x) ≡ drop end x = drop-drop (get_or ns i 0) from x ∙ ap (λ (m : ℕ). drop m x) (sym e) in
      rw (next ns i h, z, d)

  pub chunk_scalar : all_scalar (drop from x) ≡ true → (all_scalar (take (end - from) (drop from x)) ≡ true) × (all_scalar (drop end x) ≡ true)
  chunk_scalar a =
      let z : from + (end - from) ≡ end = omega arith in
      let d : drop (end - from) (drop from x) ≡ drop end x = drop-drop (end - from) from x ∙ ap (λ (m : ℕ). drop m x) z in
      let p : List ℕ = take (end - from) (drop from x) in
      let q : List ℕ = drop (end - from) (drop from x) in
      let r = both (all_scalar p) (all_scalar q) (sym (scalars_append p q) ∙ rw (take-append-drop (end - from) (drop from x)) a) in
      (r.0, rw d at r.1)

  module _ (b t : List ℕ) (k : ℕ) (s : sum ns ≡ length x) (q : Filled (chunk_bytes (pieces ns x)) b t k (chunk_bytes (pieces (drop i ns) (drop from x)))) where
    pub chunks_room : k + (4 + length (writing (take (end - from) (drop from x)))) ≤ 4 * length ns + length (writing x)
    chunks_room =
        let p : List ℕ = take (end - from) (drop from x) in
        omega (arith, chunks_length ns x s, fill_room (chunk_bytes (pieces ns x)) b t (chunk p) (chunk_bytes (pieces (drop (i + 1) ns) (drop end x))) (chunk_bytes (pieces (drop i ns) (drop from x))) k (4 + length (writing p)) (chunk_length p) chunks_next q)

    pub chunks_more : (u : List ℕ) → 4 * length ns + length (writing x) ≤ length b
        → u ≡ paste t k (chunk (take (end - from) (drop from x))) (4 + length (writing (take (end - from) (drop from x))))
        → Filled (chunk_bytes (pieces ns x)) b u (k + (4 + length (writing (take (end - from) (drop from x))))) (chunk_bytes (pieces (drop (i + 1) ns) (drop end x)))
    chunks_more u m p =
        fill_more (chunk_bytes (pieces ns x)) b t (chunk (take (end - from) (drop from x))) (chunk_bytes (pieces (drop (i + 1) ns) (drop end x))) (chunk_bytes (pieces (drop i ns) (drop from x))) k
        (4 + length (writing (take (end - from) (drop from x)))) (chunk_length (take (end - from) (drop from x))) chunks_next q u (rw (chunks_length ns x s) m) p

pub chunks_done : (ns x b t : List ℕ) (i from k : ℕ) → length ns ≤ i → Filled (chunk_bytes (pieces ns x)) b t k (chunk_bytes (pieces (drop i ns) (drop from x)))
    → t ≡ over (chunk_bytes (pieces ns x)) b
chunks_done ns x b t i from k h q = fill_end (chunk_bytes (pieces ns x)) b t (chunk_bytes (pieces (drop i ns) (drop from x))) k (chunks_end ns (drop from x) i h) q
