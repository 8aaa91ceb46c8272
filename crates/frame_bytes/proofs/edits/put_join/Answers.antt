use Prim.Native.Nat.{ℕ}
use native.Mathlib.Omega.{arith}
use borrow.Author.Rules.{rules}
use lib.ListN.{length-set}
use Rattle.frame_bytes.proofs.Framed.{join-put}
use Rattle.frame_bytes.proofs.edits.put_join.Goals as goal

pub put_number-requires : goal.put_number-requires
put_number-requires c = omega (arith, length-set {A = ℕ} c.args.bytes.now 0 0x12)

pub put_number-requires-2 : goal.put_number-requires-2
put_number-requires-2 c = omega (arith, length-set {A = ℕ} c.args.bytes.now 0 0x12)

pub bounds-bytes-9 : goal.bounds-bytes-9
bounds-bytes-9 c = omega (arith, length-set {A = ℕ} c.args.bytes.now 0 0x12)

pub shape_of-bytes : goal.shape_of-bytes
shape_of-bytes c = simp length-set (omega (arith, length-set {A = ℕ} c.args.bytes.now 0 0x12))

pub returns : goal.returns
returns c = let a = c.args in
    join-put a.bytes.now _ _ a.row a.count a.spaced c.from.result (omega arith) (search rules) c.put_number.ensures c.put_number-2.ensures
