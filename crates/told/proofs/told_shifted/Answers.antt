use Rattle.told.proofs.Found.{shift_found}
use Rattle.told.proofs.told_shifted.Goals as goal

pub returns-in-Ok : goal.returns-in-Ok
returns-in-Ok c = rw (c.in-Ok.is, shift_found c.in-Ok.found) c.found_of.ensures

pub returns-in-Err : goal.returns-in-Err
returns-in-Err c = rw (c.in-Err.is, ← c.number.ensures) c.not_found.ensures
