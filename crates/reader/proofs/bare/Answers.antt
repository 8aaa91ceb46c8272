use mathlib.Core.List.{[]}
use native.Mathlib.Omega.{arith}
use Rattle.reader.proofs.Rooms.{edit_fits}
use Rattle.reader.proofs.bare.Goals as goal

pub returns : goal.returns
returns c = λ x f s. edit_fits c.args.edit [] [] [] x f s (omega arith) (omega arith) (omega arith)
