use Rattle.winchbarn.proofs.winchbarn_sel_start.Goals as goal

pub returns : goal.returns
returns c = c.start.ensures
