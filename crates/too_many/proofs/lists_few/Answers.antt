use Rattle.edit.specs.Refusals.{few_ok}
use Rattle.too_many.proofs.lists_few.Goals as goal

pub returns-in-InsertChar : goal.returns-in-InsertChar
unfolding few_ok
returns-in-InsertChar c = rw c.in-InsertChar.is c.short.ensures

pub returns-in-InsertStr : goal.returns-in-InsertStr
unfolding few_ok
returns-in-InsertStr c = rw c.in-InsertStr.is c.short-in-InsertStr.ensures

pub returns-in-DeleteRange : goal.returns-in-DeleteRange
unfolding few_ok
returns-in-DeleteRange c = rw c.in-DeleteRange.is c.rows_few.ensures

pub returns-in-JoinLines : goal.returns-in-JoinLines
unfolding few_ok
returns-in-JoinLines c = rw c.in-JoinLines.is c.joins_few.ensures

pub returns-in-SplitLines : goal.returns-in-SplitLines
unfolding few_ok
returns-in-SplitLines c = rw (c.in-SplitLines.is, c.few.ensures, c.few-in-SplitLines.ensures)

pub returns-in-Replace : goal.returns-in-Replace
unfolding few_ok
returns-in-Replace c = rw c.in-Replace.is c.short-in-Replace.ensures

pub returns-in-InsertBlock : goal.returns-in-InsertBlock
unfolding few_ok
returns-in-InsertBlock c = rw (c.in-InsertBlock.is, c.few-in-InsertBlock.ensures, c.short-in-InsertBlock.ensures)

pub returns-in-DeleteBlockChunks : goal.returns-in-DeleteBlockChunks
unfolding few_ok
returns-in-DeleteBlockChunks c = rw (c.in-DeleteBlockChunks.is, c.few-in-DeleteBlockChunks.ensures, c.few-in-DeleteBlockChunks-2.ensures)
