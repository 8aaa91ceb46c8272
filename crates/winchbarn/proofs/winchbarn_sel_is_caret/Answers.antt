use Rattle.winchbarn.proofs.winchbarn_sel_is_caret.Goals as goal

pub returns : goal.returns
returns c = c.is_caret.ensures
