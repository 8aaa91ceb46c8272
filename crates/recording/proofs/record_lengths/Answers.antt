use Prim.Native.Nat.{◌+◌, ◌-◌, ◌*◌}
use native.Mathlib.Omega.{arith}
use lib.ListN.{drop}
use Rattle.recording.proofs.Walks.{back_by, back_long, back_next, given_by, whole-left}
use Rattle.recording.proofs.Slots.{listing_none, listing_next, listing_all}
use Rattle.recording.proofs.record_lengths.Goals as goal

pub loop-i-init : goal.loop-i-init
loop-i-init c = let a = c.args in listing_none (back_by a.n a.steps.now) _ a.out.now a.n (back_long a.n a.steps.now) (whole-left back_by a.steps.now a.n)

pub loop-i-preserved : goal.loop-i-preserved
loop-i-preserved c = let a = c.args in let l = c.loop-i in listing_next _ _ (back_by (a.n - (l.i + 1)) (drop (5 * (l.i + 1)) a.steps.now)) _ l.out a.n l.i _ l.invariant c.loop-i-test.true c.requires.1 (back_next a.steps.now a.n l.i c.loop-i-test.true c.five_at-s.result c.five_at-s.ensures.five)

pub returns : goal.returns
returns c = let a = c.args in let l = c.loop-i in λ x. listing_all _ _ a.out.now l.out _ a.n l.i l.invariant (omega arith) (given_by a.n a.steps.now x)
