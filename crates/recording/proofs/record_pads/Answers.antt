use Prim.Native.Nat.{◌+◌, ◌-◌, ◌*◌}
use native.Mathlib.Omega.{arith}
use lib.ListN.{drop}
use Rattle.recording.proofs.Walks.{pads_by, pads_long, pads_next, padded-by, whole-left}
use Rattle.recording.proofs.Slots.{listing_none, listing_next, listing_all}
use Rattle.recording.proofs.record_pads.Goals as goal

pub loop-i-init : goal.loop-i-init
loop-i-init c = let a = c.args in listing_none (pads_by a.n a.steps.now) _ a.out.now a.n (pads_long a.n a.steps.now) (whole-left pads_by a.steps.now a.n)

pub loop-i-preserved : goal.loop-i-preserved
loop-i-preserved c = let a = c.args in let l = c.loop-i in listing_next _ _ (pads_by (a.n - (l.i + 1)) (drop (5 * (l.i + 1)) a.steps.now)) _ l.out a.n l.i _ l.invariant c.loop-i-test.true c.requires.1 (pads_next a.steps.now a.n l.i c.loop-i-test.true)

pub returns : goal.returns
returns c = let a = c.args in let l = c.loop-i in λ x. listing_all _ _ a.out.now l.out _ a.n l.i l.invariant (omega arith) (padded-by a.n a.steps.now x)
