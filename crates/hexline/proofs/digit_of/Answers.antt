use borrow.Author.Tests.{le-leb, lt-leb}
use Rattle.hexline.specs.Digits.{digit_of}
use Rattle.hexline.proofs.digit_of.Goals as goal

pub returns-then-n-le9 : goal.returns-then-n-le9
unfolding digit_of
returns-then-n-le9 c = rw (le-leb _ _ c.if-n-le9.true)

pub returns-else-n-le9 : goal.returns-else-n-le9
unfolding digit_of
returns-else-n-le9 c = rw (lt-leb _ _ c.if-n-le9.false)
