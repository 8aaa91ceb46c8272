use Rattle.winchbarn.proofs.Tellings.{told_frame_lem}
use Rattle.winchbarn.proofs.winchbarn_read_edit.Goals as goal

pub returns : goal.returns
returns c = told_frame_lem _ _ _ _ _ _ c.told_edit_read.ensures c.read_edit_line.ensures
