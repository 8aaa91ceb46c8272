use Rattle.winchbarn.proofs.Tellings.{line-called, line-kindless}
use Rattle.winchbarn.proofs.winchbarn_write_edit.Goals as goal

pub returns-in-Some : goal.returns-in-Some
returns-in-Some c = line-called c.args.edit c.meant_edit-meant.result c.meant_edit-meant.ensures _ c.in-Some.is c.args.payload.now c.args.first.now c.args.second.now c.args.out.now _ _ _ c.told_count.ensures c.write_edit.ensures

pub returns-in-None : goal.returns-in-None
returns-in-None c = line-kindless c.args.edit c.meant_edit-meant.result c.meant_edit-meant.ensures c.in-None.is c.args.payload.now c.args.first.now c.args.second.now c.args.out.now _ c.not_counted.ensures
