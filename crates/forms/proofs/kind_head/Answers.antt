use Rattle.frame.specs.Forms.{head_of, kind_form}
use Rattle.frame.proofs.Answers.{unknown_kind}
use Rattle.forms.proofs.kind_head.Goals as goal

pub returns-in-0 : goal.returns-in-0
unfolding head_of kind_form
returns-in-0 c = rw c.in-0.is

pub returns-in-1 : goal.returns-in-1
unfolding head_of kind_form
returns-in-1 c = rw c.in-1.is

pub returns-in-2 : goal.returns-in-2
unfolding head_of kind_form
returns-in-2 c = rw c.in-2.is

pub returns-in_default : goal.returns-in_default
returns-in_default c = let a = c.args in unknown_kind a.kind a.start a.end c.in_default.in_default-own.rest.0.0.1 c.in_default.in_default-own.rest.0.1 c.in_default.in_default-own.rest.1
