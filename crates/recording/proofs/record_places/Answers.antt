use Prim.Native.Nat.{◌+◌, ◌-◌, ◌*◌}
use native.Mathlib.Omega.{arith}
use lib.ListN.{drop}
use Rattle.steps.specs.Numbers.{laid_by}
use Rattle.recording.proofs.Walks.{columns_by, columns-long, columns-next, columns-by, laid_next, whole-left}
use Rattle.recording.proofs.Slots.{listing_none, listing_next, listing_all}
use Rattle.recording.proofs.record_places.Goals as goal

pub loop-i-init : goal.loop-i-init
loop-i-init c = let a = c.args in (listing_none (columns_by a.start 0 a.n a.steps.now) _ a.out.now a.n (columns-long a.start 0 a.n a.steps.now) (whole-left (columns_by a.start 0) a.steps.now a.n), omega (arith, whole-left laid_by a.steps.now a.n))

pub overflow_add-place : goal.overflow_add-place
overflow_add-place c = let a = c.args in let l = c.loop-i in omega (arith, laid_next a.steps.now a.n l.i c.loop-i-test.true c.five_at-s.result c.five_at-s.ensures.five)

pub overflow_cast-out : goal.overflow_cast-out
overflow_cast-out c = let a = c.args in let l = c.loop-i in omega (arith, laid_next a.steps.now a.n l.i c.loop-i-test.true c.five_at-s.result c.five_at-s.ensures.five)

pub overflow_add-at : goal.overflow_add-at
overflow_add-at c = let a = c.args in let l = c.loop-i in omega (arith, laid_next a.steps.now a.n l.i c.loop-i-test.true c.five_at-s.result c.five_at-s.ensures.five)

pub overflow_add-at-in-loop-i : goal.overflow_add-at-in-loop-i
overflow_add-at-in-loop-i c = let a = c.args in let l = c.loop-i in omega (arith, laid_next a.steps.now a.n l.i c.loop-i-test.true c.five_at-s.result c.five_at-s.ensures.five)

pub loop-i-preserved : goal.loop-i-preserved
loop-i-preserved c = let a = c.args in let l = c.loop-i in (listing_next _ _ (columns_by a.start (l.at + c.five_at-s.result.keep + c.five_at-s.result.pad + c.five_at-s.result.come) (a.n - (l.i + 1)) (drop (5 * (l.i + 1)) a.steps.now)) _ l.out a.n l.i _ l.invariant.0 c.loop-i-test.true c.requires.1 (columns-next a.steps.now a.n l.i c.loop-i-test.true c.five_at-s.result c.five_at-s.ensures.five a.start l.at _ c.saturating_sub.ensures), omega (arith, laid_next a.steps.now a.n l.i c.loop-i-test.true c.five_at-s.result c.five_at-s.ensures.five))

pub returns : goal.returns
returns c = let a = c.args in let l = c.loop-i in λ x h. listing_all _ _ a.out.now l.out _ a.n l.i l.invariant.0 (omega arith) (columns-by a.start 0 a.n a.steps.now x h)
