use native.Mathlib.Omega.{arith}
use borrow.Author.Rules.{rules}
use lib.ListN.{length-set}
use Rattle.splice.proofs.Moves.{paste-step}
use Rattle.splice.proofs.copy_in.Goals as goal

pub loop-i-preserved : goal.loop-i-preserved
loop-i-preserved c = let a = c.args in let l = c.loop-i in (simp length-set (omega arith), paste-step _ a.at.0 _ l.i _ l.invariant.1 (omega arith) (search rules))
