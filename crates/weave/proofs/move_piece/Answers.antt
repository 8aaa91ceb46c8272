use Rattle.weave.proofs.Pieces.{piece_same}
use native.Mathlib.Omega.{arith}
use Rattle.weave.proofs.move_piece.Goals as goal

pub returns-else-from-to : goal.returns-else-from-to
returns-else-from-to c = let a = c.args in piece_same a.text.now a.from a.to a.count (omega arith)
