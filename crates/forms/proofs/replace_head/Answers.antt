use borrow.Author.Tests.{le-leb, lt-leb}
use Rattle.frame.specs.Forms.{head_of, replace_form}
use Rattle.forms.proofs.replace_head.Goals as goal

pub returns-then-bytes-lt17 : goal.returns-then-bytes-lt17
unfolding head_of replace_form
returns-then-bytes-lt17 c = rw (lt-leb 17 _ c.if-bytes-lt17.true)

pub returns : goal.returns
unfolding head_of replace_form
returns c = rw (le-leb 17 _ c.if-bytes-lt17.false, c.position_at-start.ensures, c.position_at-end.ensures)
