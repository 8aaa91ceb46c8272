use borrow.Author.Tests.{eq-eqb, ne_eqb}
use Rattle.frame.specs.Forms.{head_of, delete_form}
use Rattle.forms.proofs.delete_head.Goals as goal

pub returns-then-bytes-ne18 : goal.returns-then-bytes-ne18
unfolding head_of delete_form
returns-then-bytes-ne18 c = rw (ne_eqb _ 18 c.if-bytes-ne18.true)

pub returns : goal.returns
unfolding head_of delete_form
returns c = rw (eq-eqb _ 18 c.if-bytes-ne18.false, c.kind_head.ensures, c.position_at-end.ensures, c.position_at-start.ensures)
