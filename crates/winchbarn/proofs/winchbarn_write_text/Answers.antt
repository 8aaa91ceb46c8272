use Rattle.winchbarn.proofs.Tellings.{told_into_lem}
use Rattle.winchbarn.proofs.winchbarn_write_text.Goals as goal

pub returns : goal.returns
returns c = told_into_lem _ _ _ _ c.told_count.ensures c.write_text.ensures
