use Rattle.winchbarn.proofs.Tellings.{told_merge_lem}
use Rattle.winchbarn.proofs.winchbarn_merge_overlapping.Goals as goal

pub returns : goal.returns
returns c = told_merge_lem _ _ _ _ c.told_count.ensures c.merge_overlapping.ensures
