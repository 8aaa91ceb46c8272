use Prim.Native.Nat.{ℕ}
use native.Mathlib.Omega.{arith}
use lib.ListN.{length-set, length-take, length-drop}
use Rattle.frame_bytes.proofs.Framed.{chunks_put}
use Rattle.frame_bytes.proofs.edits.put_chunk_cuts.Goals as goal

pub put_position-requires : goal.put_position-requires
put_position-requires c = omega (arith, length-set {A = ℕ} c.args.bytes.now 0 0x16)

pub slice_bounds-put_widths-count : goal.slice_bounds-put_widths-count
slice_bounds-put_widths-count c = omega (arith, length-set {A = ℕ} c.args.bytes.now 0 0x16)

pub slice_bounds-put_widths-start : goal.slice_bounds-put_widths-start
slice_bounds-put_widths-start c = omega (arith, length-set {A = ℕ} c.args.bytes.now 0 0x16)

pub put_widths-requires : goal.put_widths-requires
put_widths-requires c = (c.requires.0, simp (length-take, length-drop) (omega (arith, length-set {A = ℕ} c.args.bytes.now 0 0x16)))

pub shape_of-bytes : goal.shape_of-bytes
shape_of-bytes c = omega (arith, length-set {A = ℕ} c.args.bytes.now 0 0x16)

pub returns : goal.returns
returns c = let a = c.args in
    chunks_put a.bytes.now _ _ a.widths.now a.pads.now a.at (omega arith) c.put_position.ensures c.put_widths.ensures
