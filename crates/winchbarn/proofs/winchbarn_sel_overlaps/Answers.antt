use Rattle.winchbarn.proofs.winchbarn_sel_overlaps.Goals as goal

pub returns : goal.returns
returns c = c.overlaps.ensures
