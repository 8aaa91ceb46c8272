use native.Mathlib.Omega.{arith}
use Rattle.frame.specs.Sizes.{size_of}
use Rattle.frame_size.proofs.byte_count.Goals as goal

pub returns-in-InsertChar : goal.returns-in-InsertChar
unfolding size_of
returns-in-InsertChar c = rw c.in-InsertChar.is (omega arith)

pub returns-in-InsertStr : goal.returns-in-InsertStr
unfolding size_of
returns-in-InsertStr c = rw c.in-InsertStr.is (omega arith)

pub returns-in-DeleteRange : goal.returns-in-DeleteRange
unfolding size_of
returns-in-DeleteRange c = rw c.in-DeleteRange.is (omega arith)

pub returns-in-JoinLines : goal.returns-in-JoinLines
unfolding size_of
returns-in-JoinLines c = rw c.in-JoinLines.is (omega arith)

pub returns-in-SplitLines : goal.returns-in-SplitLines
unfolding size_of
returns-in-SplitLines c = rw c.in-SplitLines.is (omega arith)

pub returns-in-Replace : goal.returns-in-Replace
unfolding size_of
returns-in-Replace c = rw c.in-Replace.is (omega arith)

pub returns-in-InsertBlock : goal.returns-in-InsertBlock
unfolding size_of
returns-in-InsertBlock c = rw c.in-InsertBlock.is (omega arith)

pub returns-in-DeleteBlockChunks : goal.returns-in-DeleteBlockChunks
unfolding size_of
returns-in-DeleteBlockChunks c = rw c.in-DeleteBlockChunks.is (omega arith)
