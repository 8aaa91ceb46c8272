use mathlib.Core.Path.{refl}
use Rattle.text.proofs.Scans.{all-at, all-at-end}
use Rattle.edit.specs.Refusals.{small}
use Rattle.too_big.proofs.all_small.Goals as goal

pub loop-x-preserved : goal.loop-x-preserved
loop-x-preserved c = let l = c.loop-x in all-at _ l.x-index c.loop-x-test.true small l.all _ refl l.invariant

pub returns : goal.returns
returns c = let l = c.loop-x in all-at-end _ l.x-index c.loop-x-test.false small l.all l.invariant
