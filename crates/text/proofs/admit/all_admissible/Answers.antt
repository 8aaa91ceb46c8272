use Rattle.text.proofs.Scans.{all-at, all-at-end}
use Rattle.text.specs.Text.{admissible}
use Rattle.text.proofs.admit.all_admissible.Goals as goal

pub loop-x-preserved : goal.loop-x-preserved
loop-x-preserved c = let l = c.loop-x in all-at _ l.x-index c.loop-x-test.true admissible l.all _ c.is_admissible-all.ensures l.invariant

pub returns : goal.returns
returns c = let l = c.loop-x in all-at-end _ l.x-index c.loop-x-test.false admissible l.all l.invariant
