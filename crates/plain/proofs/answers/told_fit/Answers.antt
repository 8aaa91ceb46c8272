use Rattle.plain.proofs.Boxes.{fit_found, fit_refused}
use Rattle.plain.proofs.answers.told_fit.Goals as goal

pub returns-in-Ok : goal.returns-in-Ok
returns-in-Ok c = rw (c.in-Ok.is, fit_found c.in-Ok.found) c.found_of.ensures

pub returns-in-Err : goal.returns-in-Err
returns-in-Err c = rw (c.in-Err.is, fit_refused c.in-Err.why, ← c.from.ensures, ← c.number.ensures) c.not_found.ensures
