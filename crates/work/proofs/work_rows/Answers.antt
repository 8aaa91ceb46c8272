use lib.ListN.{length-replicate}
use Rattle.resolve.proofs.Dispatch.{most_few}
use native.Mathlib.Omega.{arith}
use Rattle.work.proofs.work_rows.Goals as goal

pub work_by-requires : goal.work_by-requires
work_by-requires c = let p = c.requires in (p.0, p.1, p.2, simp length-replicate (omega (arith, p.3, c.if-most-le32.true)), p.4, p.5)

pub work_by-requires-2 : goal.work_by-requires-2
work_by-requires-2 c = let a = c.args in let p = c.requires in
    let m = most_few a.edit a.payload.now a.first.now a.second.now _ p.2 in (p.0, p.1, p.2, simp length-replicate (omega (arith, m)), p.4, p.5)
