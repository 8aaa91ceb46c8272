use Prim.Native.Nat.{ℕ}
use native.Mathlib.Omega.{arith}
use lib.ListN.{length-set, length-take, length-drop}
use Rattle.frame_bytes.proofs.Framed.{replace_put}
use Rattle.frame_bytes.proofs.edits.put_replace.Goals as goal

pub put_position-requires : goal.put_position-requires
put_position-requires c = omega (arith, length-set {A = ℕ} c.args.bytes.now 0 0x14)

pub put_position-requires-2 : goal.put_position-requires-2
put_position-requires-2 c = omega (arith, length-set {A = ℕ} c.args.bytes.now 0 0x14)

pub slice_bounds-fill_octets-count : goal.slice_bounds-fill_octets-count
slice_bounds-fill_octets-count c = omega (arith, length-set {A = ℕ} c.args.bytes.now 0 0x14)

pub slice_bounds-fill_octets-start : goal.slice_bounds-fill_octets-start
slice_bounds-fill_octets-start c = omega (arith, length-set {A = ℕ} c.args.bytes.now 0 0x14)

pub fill_octets-requires : goal.fill_octets-requires
fill_octets-requires c = (c.requires.0, simp (length-take, length-drop) (omega (arith, length-set {A = ℕ} c.args.bytes.now 0 0x14)))

pub shape_of-bytes : goal.shape_of-bytes
shape_of-bytes c = omega (arith, length-set {A = ℕ} c.args.bytes.now 0 0x14)

pub returns : goal.returns
returns c = let a = c.args in
    replace_put a.bytes.now _ _ _ a.payload.now a.start a.end (omega arith) c.put_position.ensures c.put_position-2.ensures c.fill_octets.ensures
