use Rattle.text.proofs.Order.{pos_min}
use Rattle.edit.specs.Call.{is_undoable}
use Rattle.view.proofs.undo.is_undoable.Goals as goal

pub returns-in-InsertChar : goal.returns-in-InsertChar
unfolding is_undoable
returns-in-InsertChar c = rw c.in-InsertChar.is

pub returns-in-InsertStr : goal.returns-in-InsertStr
unfolding is_undoable
returns-in-InsertStr c = rw c.in-InsertStr.is

pub returns-in-DeleteRange : goal.returns-in-DeleteRange
unfolding is_undoable
returns-in-DeleteRange c = rw c.in-DeleteRange.is c.range_undoable.ensures

pub returns-in-JoinLines : goal.returns-in-JoinLines
unfolding is_undoable
returns-in-JoinLines c = rw c.in-JoinLines.is

pub returns-in-SplitLines : goal.returns-in-SplitLines
unfolding is_undoable
returns-in-SplitLines c = rw c.in-SplitLines.is

pub returns-in-Replace : goal.returns-in-Replace
unfolding is_undoable
returns-in-Replace c = rw (c.in-Replace.is, c.contains.ensures, pos_min c.in-Replace.start c.in-Replace.end c.min.ensures)

pub returns-in-InsertBlock : goal.returns-in-InsertBlock
unfolding is_undoable
returns-in-InsertBlock c = rw c.in-InsertBlock.is

pub returns-in-DeleteBlockChunks : goal.returns-in-DeleteBlockChunks
unfolding is_undoable
returns-in-DeleteBlockChunks c = rw c.in-DeleteBlockChunks.is
