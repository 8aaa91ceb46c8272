use borrow.Author.Tests.{eq-eqb, ne_eqb}
use Rattle.frame.specs.Forms.{head_of, mark_form}
use Rattle.forms.proofs.mark_head.Goals as goal

pub returns-then-bytes-ne17 : goal.returns-then-bytes-ne17
unfolding head_of mark_form
returns-then-bytes-ne17 c = rw (ne_eqb _ 17 c.if-bytes-ne17.true)

pub returns : goal.returns
unfolding head_of mark_form
returns c = rw (eq-eqb _ 17 c.if-bytes-ne17.false, c.new.ensures, c.position_at-head.ensures, c.position_at-anchor.ensures)
