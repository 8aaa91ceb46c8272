use mathlib.Core.Path.{ap, ◌∙◌}
use Rattle.frame.specs.Forms.{head_of}
use Rattle.frame.proofs.LineForms.{count_within, line_read, line_unread}
use Rattle.place.proofs.head_in.Goals as goal

pub slice_bounds-head_of-end : goal.slice_bounds-head_of-end
slice_bounds-head_of-end c = let a = c.args in let u = c.unhex-unhexed in count_within a.line.now _ _ u.result u.ensures c.in-Ok.count c.in-Ok.is

pub returns-in-Ok : goal.returns-in-Ok
returns-in-Ok c = let a = c.args in let u = c.unhex-unhexed in c.head_of.ensures ∙ ap head_of (line_read a.line.now _ _ u.result u.ensures c.in-Ok.count c.in-Ok.is)

pub returns-in-Err : goal.returns-in-Err
unfolding head_of
returns-in-Err c = let a = c.args in let u = c.unhex-unhexed in ap head_of (line_unread a.line.now _ _ u.result u.ensures c.requires _ c.in-Err.is)
