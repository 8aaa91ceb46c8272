use Rattle.winchbarn.proofs.Tellings.{shift_called, shift_kindless}
use Rattle.winchbarn.proofs.winchbarn_shift_position.Goals as goal

pub returns-in-Some : goal.returns-in-Some
returns-in-Some c = shift_called c.args.edit c.meant_edit-meant.result c.meant_edit-meant.ensures _ c.in-Some.is c.args.text.now c.args.view c.args.payload.now c.args.first.now c.args.second.now c.args.pos _ _ c.told_shifted.ensures c.shift_position.ensures

pub returns-in-None : goal.returns-in-None
returns-in-None c = shift_kindless c.args.edit c.meant_edit-meant.result c.meant_edit-meant.ensures c.in-None.is c.args.text.now c.args.view c.args.payload.now c.args.first.now c.args.second.now c.args.pos _ (rw c.number.ensures at c.not_found.ensures)
