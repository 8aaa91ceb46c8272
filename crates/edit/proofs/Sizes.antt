-- How long the texts of block edits are, and each row's share of that.
use mathlib.Core.Path.{◌≡◌, sym, ◌∙◌, ap}
use mathlib.Core.List.{List, [], ◌∷◌, ◌++◌}
use Prim.Native.Nat.{ℕ, zero, suc, ◌+◌, ◌-◌, ◌≤◌, ◌<◌, min}
use native.Mathlib.Omega.{arith}
use lib.ListN.{length, take, drop, get_or, replicate, length-append, length-take, length-drop, length-replicate, take-append-drop}
use Rattle.text.specs.declared.Position.{Position}
use Rattle.text.specs.Rows.{Line, line, lines, unlines}
use Rattle.text.specs.Text.{is_lf}
use Rattle.text.proofs.Laws.{unlines-lines}
use Rattle.text.proofs.Broken.{unlines-append}
use Rattle.edit.specs.Edits.{put, put_all, pieces, cut_all, block_inserted, chunks_deleted}
use Rattle.edit.specs.Refusals.{is_space, spaces, sum}

-- a text whose rows from r on are others
from_length : (t : List ℕ) (r : ℕ) (S : List (Line ℕ)) → length (unlines (take r (lines is_lf t) ++ S)) + length (unlines (drop r (lines is_lf t))) ≡ length t + length (unlines S)
from_length t r S =
    let L = lines is_lf t in
    let w : length t ≡ length (unlines (take r L)) + length (unlines (drop r L)) =
    ap length (sym (unlines-lines is_lf t) ∙ ap unlines (sym (take-append-drop r L)) ∙ unlines-append (take r L) (drop r L)) ∙ length-append (unlines (take r L)) (unlines (drop r L)) in
    omega (arith, ap length (unlines-append (take r L) S), length-append (unlines (take r L)) (unlines S), w)

-- ---- chunks put in

-- how many characters come into these rows
unfoldable pub growth : ℕ → List ℕ → List (Line ℕ) → ℕ
growth c [] rs = 0
growth c (n ∷ ns) [] = 0
growth c (n ∷ ns) (r ∷ rs) = (c - length r.body) + n + growth c ns rs

pub put-length : {A : Type 0} (pad : A) (c : ℕ) (k b : List A) → length (put pad c k b) ≡ length b + ((c - length b) + length k)
unfolding put
put-length {A} pad c k b =
    let s = b ++ replicate (c - length b) pad in
    omega (arith, length-append (take c s) (k ++ drop c s), length-append k (drop c s), length-take c s, length-drop c s, length-append b (replicate (c - length b) pad), length-replicate {A = A} (c - length b) pad)

put_all-length : (c : ℕ) (ns x : List ℕ) (rs : List (Line ℕ)) → sum ns ≤ length x → length (unlines (put_all 32 c (pieces ns x) rs)) ≡ length (unlines rs) + growth c ns rs
unfolding put_all pieces growth unlines sum
put_all-length c [] x rs h = omega arith
put_all-length c (n ∷ ns) x [] h = omega arith
put_all-length c (n ∷ ns) x (r ∷ rs) h =
    let k = take n x in
    let b = put 32 c k r.body in
    let R = unlines (put_all 32 c (pieces ns (drop n x)) rs) in
    omega (arith, put_all-length c ns (drop n x) rs (omega (arith, length-drop n x)), put-length 32 c k r.body, length-take n x, length-append b (r.after ++ R), length-append r.after R, length-append r.body (r.after ++ unlines rs), length-append r.after (unlines rs))

pub block_inserted-length : (t : List ℕ) (p : Position) (x ns : List ℕ) → sum ns ≤ length x
    → length (block_inserted is_lf is_space spaces t p x ns).text ≡ length t + growth p.col.0 ns (drop p.row.0 (lines is_lf t))
unfolding block_inserted
block_inserted-length t p x ns h =
    let rs = drop p.row.0 (lines is_lf t) in
    omega (arith, from_length t p.row.0 (put_all 32 p.col.0 (pieces ns x) rs), put_all-length p.col.0 ns x rs h)

-- where nothing comes in, no row takes a chunk
pub growth_row : (c : ℕ) (ns : List ℕ) (rs : List (Line ℕ)) (k : ℕ) → k < length ns → k < length rs → growth c ns rs ≡ 0 → get_or ns k 0 ≡ 0
unfolding growth
growth_row c [] rs k h l e = absurd (omega arith)
growth_row c (n ∷ ns) [] k h l e = absurd (omega arith)
growth_row c (n ∷ ns) (r ∷ rs) zero h l e = omega arith
growth_row c (n ∷ ns) (r ∷ rs) (suc k) h l e = growth_row c ns rs k (omega arith) (omega arith) (omega arith)

-- ---- chunks cut out

-- how many characters go from these rows
unfoldable pub loss : ℕ → List ℕ → List ℕ → List (Line ℕ) → ℕ
loss c [] ds rs = 0
loss c (w ∷ ws) ds [] = 0
loss c (w ∷ ws) ds (r ∷ rs) = (min (c + w) (length r.body) - min (c - get_or ds 0 0) (length r.body)) + loss c ws (drop 1 ds) rs

lost_row : (c d w : ℕ) (b : List ℕ) → length (take (c - d) b ++ drop (c + w) b) + (min (c + w) (length b) - min (c - d) (length b)) ≡ length b
lost_row c d w b = omega (arith, length-append (take (c - d) b) (drop (c + w) b), length-take (c - d) b, length-drop (c + w) b)

added : (p q b n l a m s L : ℕ) → p ≡ b + (a + m) → q ≡ L + (a + l) → b + n ≡ L → m + s ≡ l → p + (n + s) ≡ q
added p q b n l a m s L x y k i = omega arith

cut_all-length : (c : ℕ) (ws ds : List ℕ) (rs : List (Line ℕ)) → length (unlines (cut_all c ws ds rs)) + loss c ws ds rs ≡ length (unlines rs)
unfolding cut_all loss unlines
cut_all-length c [] ds rs = omega arith
cut_all-length c (w ∷ ws) ds [] = omega arith
cut_all-length c (w ∷ ws) ds (r ∷ rs) =
    let d = get_or ds 0 0 in
    let b = take (c - d) r.body ++ drop (c + w) r.body in
    let R = unlines (cut_all c ws (drop 1 ds) rs) in
    let n : ℕ = min (c + w) (length r.body) - min (c - d) (length r.body) in
    let k : length b + n ≡ length r.body = lost_row c d w r.body in
    let i : length R + loss c ws (drop 1 ds) rs ≡ length (unlines rs) = cut_all-length c ws (drop 1 ds) rs in
    let x : length (b ++ (r.after ++ R)) ≡ length b + (length r.after + length R) = length-append b (r.after ++ R) ∙ ap (◌+◌ (length b)) (length-append r.after R) in
    let y : length (r.body ++ (r.after ++ unlines rs)) ≡ length r.body + (length r.after + length (unlines rs)) = length-append r.body (r.after ++ unlines rs) ∙ ap (◌+◌ (length r.body)) (length-append r.after (unlines rs)) in
    added (length (b ++ (r.after ++ R))) (length (r.body ++ (r.after ++ unlines rs))) (length b) n (length (unlines rs)) (length r.after) (length R) (loss c ws (drop 1 ds) rs) (length r.body) x y k i

pub chunks_deleted-length : (t : List ℕ) (p : Position) (ws ds : List ℕ)
    → length (chunks_deleted is_lf is_space spaces t p ws ds).text + loss p.col.0 ws ds (drop p.row.0 (lines is_lf t)) ≡ length t
unfolding chunks_deleted
chunks_deleted-length t p ws ds =
    let rs = drop p.row.0 (lines is_lf t) in
    omega (arith, from_length t p.row.0 (cut_all p.col.0 ws ds rs), cut_all-length p.col.0 ws ds rs)

-- where nothing goes, no row has a chunk
pub loss_row : (c : ℕ) (ws ds : List ℕ) (rs : List (Line ℕ)) (k : ℕ) → k < length ws → k < length rs → loss c ws ds rs ≡ 0
    → min (get_or ws k 0) (length (get_or rs k (line [] [])).body - c) ≡ 0
unfolding loss
loss_row c [] ds rs k h l e = absurd (omega arith)
loss_row c (w ∷ ws) ds [] k h l e = absurd (omega arith)
loss_row c (w ∷ ws) ds (r ∷ rs) zero h l e = omega arith
loss_row c (w ∷ ws) ds (r ∷ rs) (suc k) h l e = loss_row c ws (drop 1 ds) rs k (omega arith) (omega arith) (omega arith)
