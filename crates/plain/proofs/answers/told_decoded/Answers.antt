use Rattle.edit.proofs.Errors.{decode_refused}
use Rattle.plain.proofs.answers.told_decoded.Goals as goal

pub returns-in-Ok : goal.returns-in-Ok
returns-in-Ok c = rw c.in-Ok.is c.counted.ensures

pub returns-in-Err : goal.returns-in-Err
returns-in-Err c = rw (c.in-Err.is, ← decode_refused c.in-Err.why, ← c.from.ensures) c.not_counted.ensures
