use Prim.Native.Nat.{ℕ}
use native.Mathlib.Omega.{arith}
use lib.ListN.{set, length-set}
use Rattle.frame_bytes.proofs.Framed.{delete_put}
use Rattle.frame_bytes.proofs.edits.put_delete.Goals as goal

pub bounds-bytes-1 : goal.bounds-bytes-1
bounds-bytes-1 c = omega (arith, length-set {A = ℕ} c.args.bytes.now 0 0x11)

pub put_position-requires : goal.put_position-requires
put_position-requires c = omega (arith, length-set {A = ℕ} c.args.bytes.now 0 0x11, length-set {A = ℕ} (set c.args.bytes.now 0 0x11) 1 c.kind_byte.result)

pub put_position-requires-2 : goal.put_position-requires-2
put_position-requires-2 c = omega (arith, length-set {A = ℕ} c.args.bytes.now 0 0x11, length-set {A = ℕ} (set c.args.bytes.now 0 0x11) 1 c.kind_byte.result)

pub shape_of-bytes : goal.shape_of-bytes
shape_of-bytes c = omega (arith, length-set {A = ℕ} c.args.bytes.now 0 0x11, length-set {A = ℕ} (set c.args.bytes.now 0 0x11) 1 c.kind_byte.result)

pub returns : goal.returns
returns c = let a = c.args in
    delete_put a.bytes.now _ _ a.start a.end a.kind _ (omega arith) c.kind_byte.ensures c.put_position.ensures c.put_position-2.ensures
