-- Answered here, and not by the attribute, so that a wrong program is refused at values and not at a limit.
use Rattle.std.proofs.Common.{arith}
use Rattle.std.proofs.lemmas.Bool.Decides.{nat_tests}
use Rattle.after.proofs.Inserts.{insert-before}
use Rattle.after_chars.proofs.after_insert.Goals as goal

pub returns-then-lt : goal.returns-then-lt
returns-then-lt c = let a = c.args in insert-before a.pos a.at a.text.now (grind (arith, nat_tests))
