use Rattle.frame.specs.Forms.{head_of, form_by}
use Rattle.frame.proofs.Answers.{unknown_first}
use Rattle.forms.proofs.head_by.Goals as goal

pub returns-in-1 : goal.returns-in-1
unfolding form_by head_of
returns-in-1 c = rw c.in-1.is

pub returns-in-2 : goal.returns-in-2
unfolding form_by
returns-in-2 c = rw (c.in-2.is, c.mark_head.ensures)

pub returns-in-16 : goal.returns-in-16
unfolding form_by
returns-in-16 c = rw (c.in-16.is, c.insert_head.ensures)

pub returns-in-17 : goal.returns-in-17
unfolding form_by
returns-in-17 c = rw (c.in-17.is, c.delete_head.ensures)

pub returns-in-18 : goal.returns-in-18
unfolding form_by
returns-in-18 c = rw (c.in-18.is, c.join_head.ensures)

pub returns-in-19 : goal.returns-in-19
unfolding form_by
returns-in-19 c = rw (c.in-19.is, c.split_head.ensures)

pub returns-in-20 : goal.returns-in-20
unfolding form_by
returns-in-20 c = rw (c.in-20.is, c.replace_head.ensures)

pub returns-in-21 : goal.returns-in-21
unfolding form_by
returns-in-21 c = rw (c.in-21.is, c.block_head.ensures)

pub returns-in-22 : goal.returns-in-22
unfolding form_by
returns-in-22 c = rw (c.in-22.is, c.chunks_head.ensures)

pub returns-in_default : goal.returns-in_default
returns-in_default c = let a = c.args in unknown_first a.kind a.bytes.now c.in_default.in_default-own.rest.0.0.0.0.0.0.0.0.1 c.in_default.in_default-own.rest.0.0.0.0.0.0.0.1 c.in_default.in_default-own.rest.0.0.0.0.0.0.1 c.in_default.in_default-own.rest.0.0.0.0.0.1 c.in_default.in_default-own.rest.0.0.0.0.1 c.in_default.in_default-own.rest.0.0.0.1 c.in_default.in_default-own.rest.0.0.1 c.in_default.in_default-own.rest.0.1 c.in_default.in_default-own.rest.1
