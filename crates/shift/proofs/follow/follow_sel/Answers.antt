use Rattle.shift.proofs.Carrying.{anchor_dropped, head_dropped, sel-lands}
use Rattle.shift.proofs.follow.follow_sel.Goals as goal

pub returns-in_err-anchor : goal.returns-in_err-anchor
returns-in_err-anchor c = let a = c.args in rw c.from_residual.ensures (anchor_dropped a.text.now a.edit a.payload.now a.first.now a.sel _ c.follow.ensures c.in_err-anchor.was)

pub returns-in_err-head : goal.returns-in_err-head
returns-in_err-head c = let a = c.args in rw c.from_residual-in_err-head.ensures (head_dropped a.text.now a.edit a.payload.now a.first.now a.sel _ _ c.follow.ensures c.in_ok-anchor.was _ c.follow-2.ensures c.in_err-head.was)

pub returns : goal.returns
returns c = let a = c.args in rw c.new.ensures (sel-lands a.text.now a.edit a.payload.now a.first.now a.sel _ _ c.follow.ensures c.in_ok-anchor.was _ c.follow-2.ensures _ c.in_ok-head.was)
