use Rattle.utf8.specs.Reading.{all_scalar, writing}
use Rattle.utf8.specs.Calls.{octet_count}
use Rattle.frame.specs.Format.{edit_chars}
use Rattle.frame_size.proofs.octets_of.Goals as goal

pub returns-in-InsertChar : goal.returns-in-InsertChar
unfolding edit_chars octet_count all_scalar writing
returns-in-InsertChar c = rw c.in-InsertChar.is

pub returns-in-InsertStr : goal.returns-in-InsertStr
unfolding edit_chars
returns-in-InsertStr c = rw c.in-InsertStr.is c.count_octets.ensures

pub returns-in-DeleteRange : goal.returns-in-DeleteRange
unfolding edit_chars octet_count all_scalar writing
returns-in-DeleteRange c = rw c.in-DeleteRange.is

pub returns-in-JoinLines : goal.returns-in-JoinLines
unfolding edit_chars octet_count all_scalar writing
returns-in-JoinLines c = rw c.in-JoinLines.is

pub returns-in-SplitLines : goal.returns-in-SplitLines
unfolding edit_chars octet_count all_scalar writing
returns-in-SplitLines c = rw c.in-SplitLines.is

pub returns-in-Replace : goal.returns-in-Replace
unfolding edit_chars
returns-in-Replace c = rw c.in-Replace.is c.count_octets-in-Replace.ensures

pub returns-in-InsertBlock : goal.returns-in-InsertBlock
unfolding edit_chars
returns-in-InsertBlock c = rw c.in-InsertBlock.is c.count_octets-in-InsertBlock.ensures

pub returns-in-DeleteBlockChunks : goal.returns-in-DeleteBlockChunks
unfolding edit_chars octet_count all_scalar writing
returns-in-DeleteBlockChunks c = rw c.in-DeleteBlockChunks.is
