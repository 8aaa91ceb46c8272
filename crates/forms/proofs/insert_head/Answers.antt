use borrow.Author.Tests.{le-leb, lt-leb}
use Rattle.frame.specs.Forms.{head_of, insert_form}
use Rattle.forms.proofs.insert_head.Goals as goal

pub returns-then-bytes-lt9 : goal.returns-then-bytes-lt9
unfolding head_of insert_form
returns-then-bytes-lt9 c = rw (lt-leb 9 _ c.if-bytes-lt9.true)

pub returns : goal.returns
unfolding head_of insert_form
returns c = rw (le-leb 9 _ c.if-bytes-lt9.false, c.position_at-at.ensures)
