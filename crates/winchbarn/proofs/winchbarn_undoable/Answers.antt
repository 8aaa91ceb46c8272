use Rattle.winchbarn.proofs.Tellings.{undoable-called, undoable-kindless}
use Rattle.winchbarn.proofs.winchbarn_undoable.Goals as goal

pub returns-in-Some : goal.returns-in-Some
returns-in-Some c = undoable-called c.args.edit c.meant_edit-meant.result c.meant_edit-meant.ensures _ c.in-Some.is c.args.view c.args.text.now c.args.payload.now c.args.first.now c.args.second.now _ _ c.told_undoable.ensures c.undoable.ensures

pub returns-in-None : goal.returns-in-None
returns-in-None c = rw c.number.ensures (undoable-kindless c.args.edit c.meant_edit-meant.result c.meant_edit-meant.ensures c.in-None.is c.args.view c.args.text.now c.args.payload.now c.args.first.now c.args.second.now)
