use Rattle.edit.specs.Refusals.{payload_ok}
use Rattle.bad_payload.proofs.payload_good.Goals as goal

pub returns-in-InsertChar : goal.returns-in-InsertChar
unfolding payload_ok
returns-in-InsertChar c = rw (c.in-InsertChar.is, c.all_admissible.ensures)

pub returns-in-InsertStr : goal.returns-in-InsertStr
unfolding payload_ok
returns-in-InsertStr c = rw c.in-InsertStr.is c.all_admissible-in-InsertStr.ensures

pub returns-in-DeleteRange : goal.returns-in-DeleteRange
unfolding payload_ok
returns-in-DeleteRange c = rw c.in-DeleteRange.is

pub returns-in-JoinLines : goal.returns-in-JoinLines
unfolding payload_ok
returns-in-JoinLines c = rw c.in-JoinLines.is

pub returns-in-SplitLines : goal.returns-in-SplitLines
unfolding payload_ok
returns-in-SplitLines c = rw c.in-SplitLines.is

pub returns-in-Replace : goal.returns-in-Replace
unfolding payload_ok
returns-in-Replace c = rw c.in-Replace.is c.all_admissible-in-Replace.ensures

pub returns-in-InsertBlock : goal.returns-in-InsertBlock
unfolding payload_ok
returns-in-InsertBlock c = rw (c.in-InsertBlock.is, c.all_admissible-in-InsertBlock.ensures, c.no_lf.ensures, c.sums_to.ensures)

pub returns-in-DeleteBlockChunks : goal.returns-in-DeleteBlockChunks
unfolding payload_ok
returns-in-DeleteBlockChunks c = rw c.in-DeleteBlockChunks.is
