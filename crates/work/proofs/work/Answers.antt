use lib.ListN.{length-replicate}
use native.Mathlib.Omega.{arith}
use Rattle.work.proofs.work.Goals as goal

pub work_by-requires : goal.work_by-requires
work_by-requires c = let p = c.requires in (p.0, p.1, p.2, simp length-replicate (omega (arith, c.most_steps-most.ensures, c.if-most-le1.true)), p.3, p.4)
