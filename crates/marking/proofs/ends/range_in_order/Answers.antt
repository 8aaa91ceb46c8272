use Rattle.text.proofs.Order.{pos_min, pos_max}
use Rattle.marking.specs.InOrder.{in_order}
use Rattle.marking.proofs.ends.range_in_order.Goals as goal

pub returns-in-Char : goal.returns-in-Char
unfolding in_order
returns-in-Char c = rw (pos_max c.args.start c.args.end c.max-last.ensures, pos_min c.args.start c.args.end c.min-first.ensures, c.in-Char.is)

pub returns-in-Line : goal.returns-in-Line
unfolding in_order
returns-in-Line c = rw (pos_max c.args.start c.args.end c.max-last.ensures, pos_min c.args.start c.args.end c.min-first.ensures, c.in-Line.is)

pub returns-in-Block : goal.returns-in-Block
unfolding in_order
returns-in-Block c = rw c.in-Block.is
