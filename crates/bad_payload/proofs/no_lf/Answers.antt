use mathlib.Core.Path.{refl}
use Rattle.text.proofs.Ended.{not_lf}
use Rattle.text.proofs.Scans.{all-at, all-at-end}
use Rattle.bad_payload.proofs.no_lf.Goals as goal

pub loop-x-preserved : goal.loop-x-preserved
loop-x-preserved c = let l = c.loop-x in all-at _ l.x-index c.loop-x-test.true not_lf l.plain _ refl l.invariant

pub returns : goal.returns
returns c = let l = c.loop-x in all-at-end _ l.x-index c.loop-x-test.false not_lf l.plain l.invariant
