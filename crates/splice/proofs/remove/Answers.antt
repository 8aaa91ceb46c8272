use Rattle.splice.proofs.Gaps.{gap-none, gap-removed}
use Rattle.splice.proofs.remove.Goals as goal

pub returns-then-first-last : goal.returns-then-first-last
returns-then-first-last c = let a = c.args in gap-none a.text.now a.used a.start.0 a.end.0 c.requires.2 c.if-first-last.true

pub returns : goal.returns
returns c = let a = c.args in
    gap-removed a.text.now _ _ a.used a.start.0 a.end.0 c.requires.0 c.requires.1 c.requires.2 c.shift_down.ensures c.fill.ensures
