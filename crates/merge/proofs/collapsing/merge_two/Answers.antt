use Rattle.text.proofs.Order.{pos_max, pos_min}
use Rattle.merge.proofs.collapsing.merge_two.Goals as goal

pub returns : goal.returns
returns c = rw (c.new.ensures, pos_max c.end.result c.end-2.result c.max-end.ensures, pos_min c.start.result c.start-2.result c.min-start.ensures, c.end-2.ensures, c.end.ensures, c.start-2.ensures, c.start.ensures)
