use mathlib.Core.Path.{refl}
use lib.Dec.{leb}
use Rattle.text.proofs.Scans.{all-at, all-at-end}
use Rattle.frame_size.proofs.all_flags.Goals as goal

pub loop-x-preserved : goal.loop-x-preserved
loop-x-preserved c = let l = c.loop-x in all-at _ l.x-index c.loop-x-test.true (λ b. leb b 1) l.all _ refl l.invariant

pub returns : goal.returns
returns c = let l = c.loop-x in all-at-end _ l.x-index c.loop-x-test.false (λ b. leb b 1) l.all l.invariant
