use Rattle.winchbarn.proofs.Tellings.{told_into_lem}
use Rattle.winchbarn.proofs.winchbarn_run_script.Goals as goal

pub returns : goal.returns
returns c = told_into_lem _ _ _ _ c.told_ran.ensures c.run_script.ensures
