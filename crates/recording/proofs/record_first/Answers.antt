use native.Mathlib.Omega.{arith}
use lib.ListN.{length-take}
use Rattle.recording.specs.Recorded.{first_by, first_by_range, first_long, first_long_of_range}
use Rattle.recording.proofs.record_first.Goals as goal

pub record_chunks-requires : goal.record_chunks-requires
unfolding first_long first_long_of_range
record_chunks-requires c = let h = rw (c.in-DeleteRange.is, c.in-Block.is) at c.requires.2 in let g = c.extent.ensures in (c.requires.0, omega arith, omega arith)

pub record_places-requires : goal.record_places-requires
unfolding first_long
record_places-requires c = let h = rw c.in-JoinLines.is at c.requires.2 in (c.requires.0, h, c.requires.1)

pub slice_bounds-copy_from_slice-end : goal.slice_bounds-copy_from_slice-end
unfolding first_long
slice_bounds-copy_from_slice-end c = let h = rw c.in-InsertBlock.is at c.requires.2 in omega arith

pub slice_bounds-copy_from_slice-end-in-InsertBlock : goal.slice_bounds-copy_from_slice-end-in-InsertBlock
unfolding first_long
slice_bounds-copy_from_slice-end-in-InsertBlock c = let h = rw c.in-InsertBlock.is at c.requires.2 in simp length-take (omega arith)

pub copy_from_slice-requires : goal.copy_from_slice-requires
unfolding first_long
copy_from_slice-requires c = let h = rw c.in-InsertBlock.is at c.requires.2 in simp length-take (omega arith)

pub record_chunks-requires-in-DeleteBlockChunks : goal.record_chunks-requires-in-DeleteBlockChunks
unfolding first_long
record_chunks-requires-in-DeleteBlockChunks c = let h = rw c.in-DeleteBlockChunks.is at c.requires.2 in (c.requires.0, omega arith, omega arith)

pub returns-in-InsertChar : goal.returns-in-InsertChar
unfolding first_by
returns-in-InsertChar c = λ x h. rw c.in-InsertChar.is

pub returns-in-InsertStr : goal.returns-in-InsertStr
unfolding first_by
returns-in-InsertStr c = λ x h. rw c.in-InsertStr.is

pub returns-in-Char : goal.returns-in-Char
unfolding first_by first_by_range
returns-in-Char c = λ x h. rw (c.in-DeleteRange.is, c.in-Char.is)

pub returns-in-Line : goal.returns-in-Line
unfolding first_by first_by_range
returns-in-Line c = λ x h. rw (c.in-DeleteRange.is, c.in-Line.is)

pub returns-in-Block : goal.returns-in-Block
unfolding first_by first_by_range
returns-in-Block c = λ x h. rw (c.in-DeleteRange.is, c.in-Block.is, ← c.extent.ensures) (c.record_chunks.ensures x)

pub returns-in-JoinLines : goal.returns-in-JoinLines
unfolding first_by
returns-in-JoinLines c = λ x h. rw c.in-JoinLines.is (c.record_places.ensures x h)

pub returns-in-SplitLines : goal.returns-in-SplitLines
unfolding first_by
returns-in-SplitLines c = λ x h. rw c.in-SplitLines.is

pub returns-in-Replace : goal.returns-in-Replace
unfolding first_by
returns-in-Replace c = λ x h. rw c.in-Replace.is

pub returns-in-InsertBlock : goal.returns-in-InsertBlock
unfolding first_by
returns-in-InsertBlock c = λ x h. rw (c.in-InsertBlock.is, c.copy_from_slice.ensures.after)

pub returns-in-DeleteBlockChunks : goal.returns-in-DeleteBlockChunks
unfolding first_by
returns-in-DeleteBlockChunks c = λ x h. rw c.in-DeleteBlockChunks.is (c.record_chunks-in-DeleteBlockChunks.ensures x)
