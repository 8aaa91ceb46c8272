use mathlib.Core.Path.{refl}
use Rattle.hexline.specs.Digits.{hexed}
use Rattle.marking.specs.MarkLines.{mark_line}
use Rattle.marking.proofs.MarkLines.{kept_line}
use Rattle.marking.proofs.print_mark.Goals as goal

pub returns-in-Some : goal.returns-in-Some
returns-in-Some c = rw c.in-Some.is (kept_line _ _ _ _ c.requires c.write_mark.ensures)

pub returns-in-None : goal.returns-in-None
unfolding mark_line hexed
returns-in-None c = rw c.in-None.is (c.print_byte.ensures, refl)
