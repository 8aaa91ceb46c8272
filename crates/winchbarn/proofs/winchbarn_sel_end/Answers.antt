use Rattle.winchbarn.proofs.winchbarn_sel_end.Goals as goal

pub returns : goal.returns
returns c = c.end.ensures
