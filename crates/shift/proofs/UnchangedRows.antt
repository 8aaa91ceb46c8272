-- Joins and block edits that change nothing: no row is joined, no chunk is cut or put in, so no position of the text moves.
use mathlib.Core.Path.{◌≡◌, refl, sym, ap, ◌∙◌}
use mathlib.Core.Bool.{Bool, true, false, ◌||◌}
use mathlib.Core.List.{List, [], ◌∷◌}
use Prim.Native.Nat.{ℕ, suc, ◌+◌, ◌-◌, ◌≤◌, ◌<◌, min, max}
use native.Mathlib.Nat.{add-zero}
use native.Mathlib.Omega.{arith}
use borrow.Author.Tests.{le-leb, ltb-false, leb-false}
use lib.Dec.{ltb, leb}
use lib.ListN.{length, take, drop, get_or, replicate, length-append, length-drop, length-replicate, get_or-replicate}
use lib.Seq.{length-take-le, get_or-drop}
use Rattle.promise.proofs.Bools.{neither}
use Rattle.text.specs.declared.Position.{Position}
use Rattle.text.specs.Rows.{Line, line, lines, last_row, row_len, clamp}
use Rattle.text.specs.Text.{is_lf}
use Rattle.text.proofs.Spots.{clamp-within}
use Rattle.text.proofs.Changes.{row_of, row_exists, rows-changed, rows-below}
use Rattle.edit.specs.Edits.{join_row, corner, height, breadth, joined, block_inserted, chunks_deleted}
use Rattle.edit.specs.Refusals.{is_space, spaces, sum}
use Rattle.edit.proofs.Joins.{join-broken}
use Rattle.edit.proofs.Sizes.{growth, block_inserted-length, growth_row, loss, chunks_deleted-length, loss_row}
use Rattle.after.specs.After.{after_delete_block, after_join, after_insert_block, after_delete_block_chunks}
use Rattle.shift.proofs.Still.{same, join-nothing, PastRows, past-rows}

-- ---- joins

-- a join leaves fewer rows
no_join : (t : List ℕ) (row n : ℕ) (b : Bool) → (joined is_lf is_space spaces t row n b).text ≡ t → last_row is_lf t ≤ row
unfolding joined
no_join t row n b e =
    let L : List (Line ℕ) = lines is_lf t in
    let r : ℕ = min row (last_row is_lf t) in
    let h : r ≤ last_row is_lf t = omega arith in
    let m : ℕ = max n 1 in
    let B : List (Line ℕ) = drop (suc r) L in
    let new : List (Line ℕ) = join_row 32 b (row_of t r) (take m B) ∷ drop m B in
    let q = rows-changed t r h new (join-broken is_lf 32 tt b m (row_of t r) B (rows-below t r h)) in
    let s = ap length (sym (ap (lines is_lf) e) ∙ q) in
    let l = row_exists t (last_row is_lf t) (omega arith) in
    omega (arith, s, length-append (take r L) new, length-take-le r L (omega arith), length-drop m B, length-drop (suc r) L)

pub join-unchanged : (t : List ℕ) (p : Position) (row n : ℕ) (b : Bool) → (joined is_lf is_space spaces t row n b).text ≡ t → after_join p row n b t ≡ p
join-unchanged t p row n b e = join-nothing p row n b t (no_join t row n b e)

-- ---- chunks put in

-- a row of the text takes no chunk
no_chunk_put : (t : List ℕ) (q : Position) (x ns : List ℕ) (k : ℕ) → sum ns ≡ length x → (block_inserted is_lf is_space spaces t q x ns).text ≡ t → k < length ns → q.row.0 + k ≤ last_row is_lf t
    → get_or ns k 0 ≡ 0
no_chunk_put t q x ns k s e h l =
    let rs : List (Line ℕ) = drop q.row.0 (lines is_lf t) in
    let z : growth q.col.0 ns rs ≡ 0 = omega (arith, block_inserted-length t q x ns (omega arith), ap length e) in
    growth_row q.col.0 ns rs k h (omega (arith, length-drop q.row.0 (lines is_lf t), row_exists t (q.row.0 + k) l)) z

pub insert-block_unchanged : (t : List ℕ) (p q : Position) (x ns : List ℕ) → clamp is_lf t p ≡ p → sum ns ≡ length x → (block_inserted is_lf is_space spaces t q x ns).text ≡ t → after_insert_block p q ns ≡ p
unfolding after_insert_block
insert-block_unchanged t p q x ns c s e = go (ltb p.row.0 q.row.0 || leb (q.row.0 + length ns) p.row.0) refl (ltb p.col.0 q.col.0) refl
  where
    go : (a : Bool) → (ltb p.row.0 q.row.0 || leb (q.row.0 + length ns) p.row.0) ≡ a → (b : Bool) → ltb p.col.0 q.col.0 ≡ b → after_insert_block p q ns ≡ p
    go true f b g = rw f
    go false f true g = rw (f, g)
    go false f false g =
        let n = neither (ltb p.row.0 q.row.0) (leb (q.row.0 + length ns) p.row.0) f in
        let i : q.row.0 ≤ p.row.0 = ltb-false _ _ n.0 in
        let k : ℕ = p.row.0 - q.row.0 in
        let z = no_chunk_put t q x ns k s e (omega (arith, leb-false (q.row.0 + length ns) p.row.0 n.1)) (omega (arith, (clamp-within is_lf t p c).0)) in
        rw (f, g, z, add-zero)

-- ---- chunks cut out

-- a row of the text has no chunk: its width is 0, or the row ends before it
no_chunk_cut : (t : List ℕ) (q : Position) (ws ds : List ℕ) (k : ℕ) → (chunks_deleted is_lf is_space spaces t q ws ds).text ≡ t → k < length ws → q.row.0 + k ≤ last_row is_lf t
    → min (get_or ws k 0) (row_len is_lf t (q.row.0 + k) - q.col.0) ≡ 0
unfolding row_len
no_chunk_cut t q ws ds k e h l =
    let rs : List (Line ℕ) = drop q.row.0 (lines is_lf t) in
    let z : loss q.col.0 ws ds rs ≡ 0 = omega (arith, chunks_deleted-length t q ws ds, ap length e) in
    rw (← get_or-drop q.row.0 (lines is_lf t) k (line [] []))
    (loss_row q.col.0 ws ds rs k h (omega (arith, length-drop q.row.0 (lines is_lf t), row_exists t (q.row.0 + k) l)) z)

pub delete_chunks_unchanged : (t : List ℕ) (p q : Position) (ws ds : List ℕ) → clamp is_lf t p ≡ p → (chunks_deleted is_lf is_space spaces t q ws ds).text ≡ t → after_delete_block_chunks p q ws ≡ p
unfolding after_delete_block_chunks
delete_chunks_unchanged t p q ws ds c e = go (ltb p.row.0 q.row.0 || leb (q.row.0 + length ws) p.row.0) refl (leb p.col.0 q.col.0) refl
  where
    go : (a : Bool) → (ltb p.row.0 q.row.0 || leb (q.row.0 + length ws) p.row.0) ≡ a → (b : Bool) → leb p.col.0 q.col.0 ≡ b → after_delete_block_chunks p q ws ≡ p
    go true f b g = rw f
    go false f true g = rw (f, g)
    go false f false g =
        let n = neither (ltb p.row.0 q.row.0) (leb (q.row.0 + length ws) p.row.0) f in
        let i : q.row.0 ≤ p.row.0 = ltb-false _ _ n.0 in
        let k : ℕ = p.row.0 - q.row.0 in
        let j : q.row.0 + k ≡ p.row.0 = omega arith in
        let d = clamp-within is_lf t p c in
        let m = rw j at (no_chunk_cut t q ws ds k e (omega (arith, leb-false (q.row.0 + length ws) p.row.0 n.1)) (omega (arith, d.0))) in
        let z : get_or ws k 0 ≡ 0 = omega (arith, m, d.1, leb-false p.col.0 q.col.0 g) in
        rw (f, g, z, add-zero, le-leb q.col.0 p.col.0 (omega (arith, leb-false p.col.0 q.col.0 g))) (same p _ _ refl (omega arith))

no_block_cut : (t : List ℕ) (a b : Position) → (chunks_deleted is_lf is_space spaces t (corner a b) (replicate (height a b) (breadth a b)) []).text ≡ t → PastRows t a b
no_block_cut t a b e r h l m =
    let top : ℕ = min a.row.0 b.row.0 in
    let k : ℕ = r - top in
    let j : top + k ≡ r = omega arith in
    let ws : List ℕ = replicate (height a b) (breadth a b) in
    let w : get_or ws k 0 ≡ breadth a b = get_or-replicate (height a b) k (breadth a b) 0 (omega arith) in
    let c = rw j at (no_chunk_cut t (corner a b) ws [] k e (omega (arith, length-replicate (height a b) (breadth a b))) (omega arith)) in
    omega (arith, c, w)

pub block_unchanged : (t : List ℕ) (p a b : Position) → clamp is_lf t p ≡ p → (chunks_deleted is_lf is_space spaces t (corner a b) (replicate (height a b) (breadth a b)) []).text ≡ t
    → after_delete_block p a b ≡ p
block_unchanged t p a b c e = past-rows t a b p c (no_block_cut t a b e)
