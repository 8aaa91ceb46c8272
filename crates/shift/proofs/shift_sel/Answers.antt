use Rattle.std.proofs.lemmas.Result.{err_from_is_err_and}
use Rattle.shift.proofs.Verdicts.{shift_passed, sel-refused, sel-asked, sel-follows}
use Rattle.shift.proofs.shift_sel.Goals as goal

pub returns-in_err-judge : goal.returns-in_err-judge
returns-in_err-judge c = let a = c.args in let p = err_from_is_err_and c.from_residual.result c.from_residual.ensures.1 in rw (p.1, p.2) (sel-refused a.buffer.now a.view.used a.edit a.payload.now a.first.now a.second.now a.sel _ _ c.small_position.ensures c.small_position-2.ensures _ c.judge.ensures _ c.in_err-judge.was)

pub slice_bounds-follow_sel-end : goal.slice_bounds-follow_sel-end
slice_bounds-follow_sel-end c = let a = c.args in (shift_passed a.buffer.now a.view.used a.edit a.payload.now a.first.now a.second.now _ _ c.judge.ensures c.in_ok-judge.was).textual.0

pub follow_sel-requires : goal.follow_sel-requires
follow_sel-requires c = let a = c.args in sel-asked a.buffer.now a.view.used a.edit a.payload.now a.first.now a.second.now a.sel _ _ c.small_position.ensures c.small_position-2.ensures _ c.judge.ensures c.in_ok-judge.was

pub returns : goal.returns
returns c = let a = c.args in sel-follows a.buffer.now a.view.used a.edit a.payload.now a.first.now a.second.now a.sel _ _ c.small_position.ensures c.small_position-2.ensures _ c.judge.ensures c.in_ok-judge.was _ c.follow_sel.ensures
