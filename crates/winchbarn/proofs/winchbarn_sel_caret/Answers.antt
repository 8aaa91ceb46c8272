use Rattle.winchbarn.proofs.winchbarn_sel_caret.Goals as goal

pub returns : goal.returns
returns c = c.caret.ensures
