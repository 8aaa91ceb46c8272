use Prim.Native.Nat.{ℕ}
use native.Mathlib.Omega.{arith}
use lib.ListN.{length-set, length-take, length-drop}
use Rattle.frame_bytes.proofs.Framed.{block_put}
use Rattle.frame_bytes.proofs.edits.put_block.Goals as goal

pub put_position-requires : goal.put_position-requires
put_position-requires c = omega (arith, length-set {A = ℕ} c.args.bytes.now 0 0x15)

pub slice_bounds-put_chunks-count : goal.slice_bounds-put_chunks-count
slice_bounds-put_chunks-count c = omega (arith, length-set {A = ℕ} c.args.bytes.now 0 0x15)

pub slice_bounds-put_chunks-start : goal.slice_bounds-put_chunks-start
slice_bounds-put_chunks-start c = omega (arith, length-set {A = ℕ} c.args.bytes.now 0 0x15)

pub put_chunks-requires : goal.put_chunks-requires
put_chunks-requires c = (c.requires.0, c.requires.1, omega arith, simp (length-take, length-drop) (omega (arith, length-set {A = ℕ} c.args.bytes.now 0 0x15)))

pub shape_of-bytes : goal.shape_of-bytes
shape_of-bytes c = omega (arith, length-set {A = ℕ} c.args.bytes.now 0 0x15)

pub returns : goal.returns
returns c = let a = c.args in
    block_put a.bytes.now _ _ a.payload.now a.lens.now a.at (omega arith) c.put_position.ensures c.put_chunks.ensures
