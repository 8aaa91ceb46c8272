use Rattle.text.proofs.Order.{pos_min, pos_max}
use Rattle.marking.specs.InOrder.{in_order}
use Rattle.marking.proofs.ends.in_order.Goals as goal

pub returns-in-InsertChar : goal.returns-in-InsertChar
unfolding in_order
returns-in-InsertChar c = rw c.in-InsertChar.is

pub returns-in-InsertStr : goal.returns-in-InsertStr
unfolding in_order
returns-in-InsertStr c = rw c.in-InsertStr.is

pub returns-in-DeleteRange : goal.returns-in-DeleteRange
returns-in-DeleteRange c = rw c.in-DeleteRange.is c.range_in_order.ensures

pub returns-in-JoinLines : goal.returns-in-JoinLines
unfolding in_order
returns-in-JoinLines c = rw c.in-JoinLines.is

pub returns-in-SplitLines : goal.returns-in-SplitLines
unfolding in_order
returns-in-SplitLines c = rw c.in-SplitLines.is

pub returns-in-Replace : goal.returns-in-Replace
unfolding in_order
returns-in-Replace c = rw (c.in-Replace.is, pos_max c.in-Replace.start c.in-Replace.end c.max.ensures, pos_min c.in-Replace.start c.in-Replace.end c.min.ensures)

pub returns-in-InsertBlock : goal.returns-in-InsertBlock
unfolding in_order
returns-in-InsertBlock c = rw c.in-InsertBlock.is

pub returns-in-DeleteBlockChunks : goal.returns-in-DeleteBlockChunks
unfolding in_order
returns-in-DeleteBlockChunks c = rw c.in-DeleteBlockChunks.is
