-- What is told of a position that was followed.
use mathlib.Core.Path.{◌≡◌, refl}
use Rattle.std.specs.Prelude.{Option, Some, None}
use Rattle.promise.specs.Paper.{done}
use Rattle.text.specs.declared.Position.{Position}
use Rattle.shift.specs.Answers.{followed}
use Rattle.plain.specs.Told.{found_of}
use Rattle.told.specs.Shifts.{told_shifted}

pub shift_found : (o : Option Position) → told_shifted (done (followed o)) ≡ found_of o
shift_found (Some p) = refl
shift_found None = refl
