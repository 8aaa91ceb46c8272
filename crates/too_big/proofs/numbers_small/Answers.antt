use Rattle.edit.specs.Refusals.{small_ok}
use Rattle.too_big.proofs.numbers_small.Goals as goal

pub returns-in-InsertChar : goal.returns-in-InsertChar
unfolding small_ok
returns-in-InsertChar c = rw c.in-InsertChar.is c.small_position.ensures

pub returns-in-InsertStr : goal.returns-in-InsertStr
unfolding small_ok
returns-in-InsertStr c = rw c.in-InsertStr.is c.small_position-in-InsertStr.ensures

pub returns-in-DeleteRange : goal.returns-in-DeleteRange
unfolding small_ok
returns-in-DeleteRange c = rw c.in-DeleteRange.is c.small_range.ensures

pub returns-in-JoinLines : goal.returns-in-JoinLines
unfolding small_ok
returns-in-JoinLines c = rw c.in-JoinLines.is

pub returns-in-SplitLines : goal.returns-in-SplitLines
unfolding small_ok
returns-in-SplitLines c = rw (c.in-SplitLines.is, c.all_small.ensures, c.all_small-in-SplitLines.ensures)

pub returns-in-Replace : goal.returns-in-Replace
unfolding small_ok
returns-in-Replace c = rw (c.in-Replace.is, c.small_position-in-Replace.ensures, c.small_position-in-Replace-2.ensures)

pub returns-in-InsertBlock : goal.returns-in-InsertBlock
unfolding small_ok
returns-in-InsertBlock c = rw (c.in-InsertBlock.is, c.small_position-in-InsertBlock.ensures, c.all_small-in-InsertBlock.ensures)

pub returns-in-DeleteBlockChunks : goal.returns-in-DeleteBlockChunks
unfolding small_ok
returns-in-DeleteBlockChunks c = rw (c.in-DeleteBlockChunks.is, c.small_position-in-DeleteBlockChunks.ensures, c.all_small-in-DeleteBlockChunks.ensures, c.all_small-in-DeleteBlockChunks-2.ensures)
