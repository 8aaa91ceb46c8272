use Rattle.told.proofs.found_sel_of.Goals as goal

pub returns-in-Some : goal.returns-in-Some
returns-in-Some c = rw c.in-Some.is c.found_sel.ensures

pub returns-in-None : goal.returns-in-None
returns-in-None c = rw c.in-None.is c.no_sel.ensures
