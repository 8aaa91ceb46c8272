use Rattle.splice.proofs.Gaps.{gap-closed}
use Rattle.splice.proofs.close_gap.Goals as goal

pub returns : goal.returns
returns c = let a = c.args in
    gap-closed a.text.now _ a.used a.start.0 a.end.0 a.cut.now _ c.copy_in.ensures c.remove.ensures
