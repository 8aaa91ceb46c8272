use Rattle.scriptrun.proofs.Bytes.{come_on}
use Rattle.scriptrun.proofs.read_some.Goals as goal

pub returns-clause-come_2 : goal.returns-clause-come_2
returns-clause-come_2 c = come_on _ _ _ _ _ c.requires.come c.take_read.ensures.stands
