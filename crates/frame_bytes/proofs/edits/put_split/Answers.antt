use Prim.Native.Nat.{ℕ}
use native.Mathlib.Omega.{arith}
use lib.ListN.{length-set, length-take, length-drop}
use Rattle.frame_bytes.proofs.Framed.{split-put}
use Rattle.frame_bytes.proofs.edits.put_split.Goals as goal

pub put_number-requires : goal.put_number-requires
put_number-requires c = omega (arith, length-set {A = ℕ} c.args.bytes.now 0 0x13)

pub slice_bounds-put_columns-count : goal.slice_bounds-put_columns-count
slice_bounds-put_columns-count c = omega (arith, length-set {A = ℕ} c.args.bytes.now 0 0x13)

pub slice_bounds-put_columns-start : goal.slice_bounds-put_columns-start
slice_bounds-put_columns-start c = omega (arith, length-set {A = ℕ} c.args.bytes.now 0 0x13)

pub put_columns-requires : goal.put_columns-requires
put_columns-requires c = (c.requires.0, c.requires.1, simp (length-take, length-drop) (omega (arith, length-set {A = ℕ} c.args.bytes.now 0 0x13)))

pub shape_of-bytes : goal.shape_of-bytes
shape_of-bytes c = omega (arith, length-set {A = ℕ} c.args.bytes.now 0 0x13)

pub returns : goal.returns
returns c = let a = c.args in
    split-put a.bytes.now _ _ a.row a.cols.now a.flags.now (omega arith) c.put_number.ensures c.put_columns.ensures
