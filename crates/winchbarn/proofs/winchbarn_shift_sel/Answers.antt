use Rattle.winchbarn.proofs.Tellings.{sel-called, sel-kindless}
use Rattle.winchbarn.proofs.winchbarn_shift_sel.Goals as goal

pub returns-in-Some : goal.returns-in-Some
returns-in-Some c = sel-called c.args.edit c.meant_edit-meant.result c.meant_edit-meant.ensures _ c.in-Some.is c.args.text.now c.args.view c.args.payload.now c.args.first.now c.args.second.now c.args.sel _ _ c.told_sel_shifted.ensures c.shift_sel.ensures

pub returns-in-None : goal.returns-in-None
returns-in-None c = sel-kindless c.args.edit c.meant_edit-meant.result c.meant_edit-meant.ensures c.in-None.is c.args.text.now c.args.view c.args.payload.now c.args.first.now c.args.second.now c.args.sel _ (rw c.number.ensures at c.no_sel.ensures)
