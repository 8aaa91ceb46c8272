use borrow.Author.Tests.{eq-eqb, ne_eqb, le-leb, lt-leb}
use Rattle.frame.specs.Forms.{head_of, join_form}
use Rattle.forms.proofs.join_head.Goals as goal

pub returns-then-bytes-ne10 : goal.returns-then-bytes-ne10
unfolding head_of join_form
returns-then-bytes-ne10 c = rw (ne_eqb _ 10 c.if-bytes-ne10.true)

pub returns-then-flag-gt1 : goal.returns-then-flag-gt1
unfolding head_of join_form
returns-then-flag-gt1 c = rw (eq-eqb _ 10 c.if-bytes-ne10.false, lt-leb _ 1 c.if-flag-gt1.true)

pub returns : goal.returns
unfolding head_of join_form
returns c = rw (eq-eqb _ 10 c.if-bytes-ne10.false, le-leb _ 1 c.if-flag-gt1.false, c.number_at-row.ensures, c.number_at-count.ensures)
