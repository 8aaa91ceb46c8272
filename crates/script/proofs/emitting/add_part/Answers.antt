use native.Mathlib.Omega.{arith}
use Rattle.script.proofs.Goings.{too_long, added}
use Rattle.script.proofs.emitting.add_part.Goals as goal

pub returns-then-out-printed : goal.returns-then-out-printed
returns-then-out-printed c = let a = c.args in record { printed_in_bounds = tt; by_index = λ w b rest g. too_long a.keep w b a.printed a.part.now rest _ g c.if-out-printed.true }

pub returns : goal.returns
returns c = let a = c.args in record { printed_in_bounds = omega arith; by_index = λ w b rest g. added a.keep w b a.printed a.part.now rest _ g _ c.if-out-printed.false c.emit.ensures }
