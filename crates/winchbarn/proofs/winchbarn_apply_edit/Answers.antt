use Rattle.edit.specs.Call.{lent}
use Rattle.winchbarn.proofs.Tellings.{edit_called, edit_kindless}
use Rattle.winchbarn.proofs.winchbarn_apply_edit.Goals as goal

pub returns-in-Some : goal.returns-in-Some
returns-in-Some c = edit_called c.args.edit c.meant_edit-meant.result c.meant_edit-meant.ensures _ c.in-Some.is c.args.view (lent c.args.text.now c.args.payload.now c.args.first.now c.args.second.now c.args.outpayload.now c.args.outfirst.now c.args.outsecond.now) _ _ _ _ _ _ c.told_answer.ensures c.apply_edit-answer.ensures

pub returns-in-None : goal.returns-in-None
returns-in-None c = edit_kindless c.args.edit c.meant_edit-meant.result c.meant_edit-meant.ensures c.in-None.is c.args.view (lent c.args.text.now c.args.payload.now c.args.first.now c.args.second.now c.args.outpayload.now c.args.outfirst.now c.args.outsecond.now) _ c.not_changed.ensures
