-- What the inverse of an edit holds: a payload no longer than the text, and lists of at most 256 items.
use mathlib.Core.List.{List, []}
use Prim.Native.Nat.{ℕ, suc, ◌≤◌, min, max}
use native.Mathlib.Omega.{arith}
use lib.Dec.{T, leb→le}
use lib.ListN.{length, take, drop, get_or, replicate, length-take, length-drop, length-map, length-replicate}
use lib.Seq.{slice}
use Rattle.promise.proofs.Bools.{T-left}
use Rattle.text.specs.declared.Position.{Position}
use Rattle.text.specs.Rows.{line, lines, last_row, offset}
use Rattle.text.specs.Text.{is_lf}
use Rattle.edit.specs.declared.MotionKind.TheVariants.{Char, Line as Lines, Block}
use Rattle.edit.specs.declared.Edit.{Edit}
use Rattle.edit.specs.declared.Edit.TheVariants.{InsertChar, InsertStr, DeleteRange, JoinLines, SplitLines, Replace, InsertBlock, DeleteBlockChunks}
use Rattle.edit.specs.Edits.{Whole, whole, inserted, cut_from, cut_to, chars_deleted, line_from, line_to, lines_deleted, replaced, joined, split, pieces, chunks_of, block_inserted, chunks_deleted, height, breadth, range_deleted, edited_by}
use Rattle.edit.specs.Refusals.{is_space, spaces, few, short, few_rows, few_ok}
use Rattle.edit.proofs.Accepted.{doing}
use Rattle.edit.proofs.Joins.{join_cols-length, join_flags-length, joins-few}
use Rattle.edit.proofs.Blocks.{pads_of-length, chunks_of-length, chunks_le, pieces-length}

-- an inverse that demand 3's slices hold, where the payload's has n places
abbrev pub Named : ℕ → Whole ℕ → Type 0
Named n i = (length i.payload ≤ n) × (length i.first ≤ 256) × (length i.second ≤ 256)

part-le : (a b : ℕ) (t : List ℕ) → length (slice a b t) ≤ length t
part-le a b t = omega (arith, length-drop a (take b t), length-take b t)

chunks_fit : (t : List ℕ) (p : Position) (ws ds : List ℕ) → length ws ≤ 256 → Named (length t) (chunks_deleted is_lf is_space spaces t p ws ds).inverse
unfolding chunks_deleted
chunks_fit t p ws ds h =
    let ks = chunks_of p.col.0 ws (drop p.row.0 (lines is_lf t)) in
    (chunks_le t p.col.0 p.row.0 ws, omega (arith, length-map ks length, chunks_of-length p.col.0 ws (drop p.row.0 (lines is_lf t))), omega arith)

pub inverse_fits : (t : List ℕ) (e : Edit) (x f s : List ℕ) → T (few_ok t e x f s) → Named (length t) (doing (whole e x f s) t).inverse
unfolding edited_by range_deleted inserted chars_deleted lines_deleted replaced joined split block_inserted few_ok few_rows
inverse_fits t (InsertChar p) x f s h = (omega arith, omega arith, omega arith)
inverse_fits t (InsertStr p) x f s h = (omega arith, omega arith, omega arith)
inverse_fits t (DeleteRange p q Char) x f s h = (part-le (cut_from is_lf t p q) (cut_to is_lf t p q) t, omega arith, omega arith)
inverse_fits t (DeleteRange p q Lines) x f s h =
    let lo = min (min p.row.0 q.row.0) (last_row is_lf t) in
    let hi = min (max p.row.0 q.row.0) (last_row is_lf t) in
    (part-le (offset is_lf t (line_from is_lf t lo hi)) (line_to is_lf t hi) t, omega arith, omega arith)
inverse_fits t (DeleteRange p q Block) x f s h =
    chunks_fit t _ (replicate (height p q) (breadth p q)) [] (omega (arith, length-replicate (height p q) (breadth p q), leb→le (height p q) 256 h))
inverse_fits t (JoinLines r n b) x f s h =
    let k = min r.0 (last_row is_lf t) in
    let y = get_or (lines is_lf t) k (line [] []) in
    let ys = take (max n 1) (drop (suc k) (lines is_lf t)) in
    let m = joins-few t r n b x f s h in
    (omega arith, omega (arith, m, join_cols-length b y ys), omega (arith, m, join_flags-length b y ys))
inverse_fits t (SplitLines r) x f s h = (omega arith, omega arith, omega arith)
inverse_fits t (Replace p q) x f s h = (part-le (cut_from is_lf t p q) (cut_to is_lf t p q) t, omega arith, omega arith)
inverse_fits t (InsertBlock p) x f s h =
    let m = leb→le (length f) 256 (T-left (few f) (short x) h) in
    let ks = pieces f x in
    (omega arith, m, omega (arith, m, pads_of-length p.col.0 ks (drop p.row.0 (lines is_lf t)), pieces-length f x))
inverse_fits t (DeleteBlockChunks p) x f s h = chunks_fit t p f s (leb→le (length f) 256 (T-left (few f) (few s) h))
