use Rattle.edit.proofs.Errors.{encode_refused}
use Rattle.plain.proofs.answers.told_encoded.Goals as goal

pub returns-in-Ok : goal.returns-in-Ok
returns-in-Ok c = rw c.in-Ok.is c.counted.ensures

pub returns-in-Err : goal.returns-in-Err
returns-in-Err c = rw (c.in-Err.is, ← encode_refused c.in-Err.why, ← c.from.ensures) c.not_counted.ensures
