-- How many bytes a frame has.
use mathlib.Core.List.{List, [], ◌∷◌}
use Prim.Native.Nat.{ℕ, ◌+◌, ◌*◌, ◌≤◌}
use native.Mathlib.Omega.{arith}
use lib.ListN.{length, take, drop, length-append, length-take, length-drop}
use Rattle.utf8.specs.Reading.{writing}
use Rattle.utf8.proofs.Writings.{writing-len}
use Rattle.edit.specs.declared.Edit.{Edit}
use Rattle.edit.specs.declared.Edit.TheVariants.{InsertChar, InsertStr, DeleteRange, JoinLines, SplitLines, Replace, InsertBlock, DeleteBlockChunks}
use Rattle.edit.specs.Edits.{pieces}
use Rattle.frame.specs.Format.{column_bytes, width_bytes, chunk_bytes, edit_bytes}

columns-len : (cs fs : List ℕ) → length (column_bytes cs fs) ≤ length cs * 5
unfolding column_bytes
columns-len [] fs = omega arith
columns-len (c ∷ cs) fs = omega (arith, columns-len cs (drop 1 fs))

widths_len : (ws ds : List ℕ) → length (width_bytes ws ds) ≤ length ws * 8
unfolding width_bytes
widths_len [] ds = omega arith
widths_len (w ∷ ws) ds = omega (arith, widths_len ws (drop 1 ds))

chunks_len : (ns x : List ℕ) → length (chunk_bytes (pieces ns x)) ≤ length ns * 4 + length x * 4
unfolding chunk_bytes pieces
chunks_len [] x = omega arith
chunks_len (n ∷ ns) x =
    omega (arith, chunks_len ns (drop n x), writing-len (take n x), length-append (writing (take n x)) (chunk_bytes (pieces ns (drop n x))), length-take n x, length-drop n x)

-- the longest is a block of 4,096 characters in 256 chunks
pub edit_len : (e : Edit) (x f s : List ℕ) → length x ≤ 4_096 → length f ≤ 256 → length (edit_bytes e x f s) ≤ 18_432
unfolding edit_bytes
edit_len (InsertChar p) x f s h k = omega arith
edit_len (InsertStr p) x f s h k = omega (arith, writing-len x)
edit_len (DeleteRange p q m) x f s h k = omega arith
edit_len (JoinLines r n b) x f s h k = omega arith
edit_len (SplitLines r) x f s h k = omega (arith, columns-len f s)
edit_len (Replace p q) x f s h k = omega (arith, writing-len x)
edit_len (InsertBlock p) x f s h k = omega (arith, chunks_len f x)
edit_len (DeleteBlockChunks p) x f s h k = omega (arith, widths_len f s)
