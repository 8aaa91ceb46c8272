use Rattle.frame.specs.Format.{has_bytes}
use Rattle.frame_size.proofs.has_bytes.Goals as goal

pub returns-in-InsertChar : goal.returns-in-InsertChar
unfolding has_bytes
returns-in-InsertChar c = rw c.in-InsertChar.is

pub returns-in-InsertStr : goal.returns-in-InsertStr
unfolding has_bytes
returns-in-InsertStr c = rw c.in-InsertStr.is

pub returns-in-DeleteRange : goal.returns-in-DeleteRange
unfolding has_bytes
returns-in-DeleteRange c = rw c.in-DeleteRange.is

pub returns-in-JoinLines : goal.returns-in-JoinLines
unfolding has_bytes
returns-in-JoinLines c = rw c.in-JoinLines.is

pub returns-in-SplitLines : goal.returns-in-SplitLines
unfolding has_bytes
returns-in-SplitLines c = rw (c.in-SplitLines.is, c.all_flags.ensures)

pub returns-in-Replace : goal.returns-in-Replace
unfolding has_bytes
returns-in-Replace c = rw c.in-Replace.is

pub returns-in-InsertBlock : goal.returns-in-InsertBlock
unfolding has_bytes
returns-in-InsertBlock c = rw c.in-InsertBlock.is c.sums_to.ensures

pub returns-in-DeleteBlockChunks : goal.returns-in-DeleteBlockChunks
unfolding has_bytes
returns-in-DeleteBlockChunks c = rw c.in-DeleteBlockChunks.is
