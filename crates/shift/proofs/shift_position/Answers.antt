use Rattle.std.proofs.lemmas.Result.{err_from_is_err_and}
use Rattle.shift.proofs.Verdicts.{shift_passed, position-refused, position-asked, position-follows}
use Rattle.shift.proofs.shift_position.Goals as goal

pub returns-in_err-judge : goal.returns-in_err-judge
returns-in_err-judge c = let a = c.args in let p = err_from_is_err_and c.from_residual.result c.from_residual.ensures.1 in rw (p.1, p.2) (position-refused a.buffer.now a.view.used a.edit a.payload.now a.first.now a.second.now a.pos _ c.small_position-small.ensures _ c.judge.ensures _ c.in_err-judge.was)

pub slice_bounds-follow-end : goal.slice_bounds-follow-end
slice_bounds-follow-end c = let a = c.args in (shift_passed a.buffer.now a.view.used a.edit a.payload.now a.first.now a.second.now _ _ c.judge.ensures c.in_ok-judge.was).textual.0

pub follow-requires : goal.follow-requires
follow-requires c = let a = c.args in position-asked a.buffer.now a.view.used a.edit a.payload.now a.first.now a.second.now a.pos _ c.small_position-small.ensures _ c.judge.ensures c.in_ok-judge.was

pub returns : goal.returns
returns c = let a = c.args in position-follows a.buffer.now a.view.used a.edit a.payload.now a.first.now a.second.now a.pos _ c.small_position-small.ensures _ c.judge.ensures c.in_ok-judge.was _ c.follow.ensures
