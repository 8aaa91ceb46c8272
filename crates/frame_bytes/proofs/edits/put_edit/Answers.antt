use native.Mathlib.Omega.{arith}
use borrow.Author.Tests.{eqb-true}
use Rattle.promise.proofs.Bools.{both}
use Rattle.frame.specs.Format.{edit_bytes, has_bytes, edit_chars}
use Rattle.frame.specs.Sizes.{size_of}
use Rattle.frame_bytes.proofs.edits.put_edit.Goals as goal

pub put_insert-requires : goal.put_insert-requires
unfolding has_bytes edit_chars size_of
put_insert-requires c = let p = rw c.in-InsertStr.is at c.requires in (p.1, omega arith)

pub put_delete-requires : goal.put_delete-requires
unfolding has_bytes edit_chars size_of
put_delete-requires c = let p = rw c.in-DeleteRange.is at c.requires in omega arith

pub put_join-requires : goal.put_join-requires
unfolding has_bytes edit_chars size_of
put_join-requires c = let p = rw c.in-JoinLines.is at c.requires in omega arith

pub put_split-requires : goal.put_split-requires
unfolding has_bytes edit_chars size_of
put_split-requires c = let p = rw c.in-SplitLines.is at c.requires in let b = both _ _ p.0 in (eqb-true _ _ b.0, b.1, omega arith)

pub put_replace-requires : goal.put_replace-requires
unfolding has_bytes edit_chars size_of
put_replace-requires c = let p = rw c.in-Replace.is at c.requires in (p.1, omega arith)

pub put_block-requires : goal.put_block-requires
unfolding has_bytes edit_chars size_of
put_block-requires c = let p = rw c.in-InsertBlock.is at c.requires in (eqb-true _ _ p.0, p.1, p.2, omega arith)

pub put_chunk_cuts-requires : goal.put_chunk_cuts-requires
unfolding has_bytes edit_chars size_of
put_chunk_cuts-requires c = let p = rw c.in-DeleteBlockChunks.is at c.requires in (eqb-true _ _ p.0, omega arith)

pub returns-in-InsertChar : goal.returns-in-InsertChar
unfolding edit_bytes
returns-in-InsertChar c = rw c.in-InsertChar.is

pub returns-in-InsertStr : goal.returns-in-InsertStr
unfolding edit_bytes
returns-in-InsertStr c = rw c.in-InsertStr.is c.put_insert.ensures

pub returns-in-DeleteRange : goal.returns-in-DeleteRange
unfolding edit_bytes
returns-in-DeleteRange c = rw c.in-DeleteRange.is c.put_delete.ensures

pub returns-in-JoinLines : goal.returns-in-JoinLines
unfolding edit_bytes
returns-in-JoinLines c = rw c.in-JoinLines.is c.put_join.ensures

pub returns-in-SplitLines : goal.returns-in-SplitLines
unfolding edit_bytes
returns-in-SplitLines c = rw c.in-SplitLines.is c.put_split.ensures

pub returns-in-Replace : goal.returns-in-Replace
unfolding edit_bytes
returns-in-Replace c = rw c.in-Replace.is c.put_replace.ensures

pub returns-in-InsertBlock : goal.returns-in-InsertBlock
unfolding edit_bytes
returns-in-InsertBlock c = rw c.in-InsertBlock.is c.put_block.ensures

pub returns-in-DeleteBlockChunks : goal.returns-in-DeleteBlockChunks
unfolding edit_bytes
returns-in-DeleteBlockChunks c = rw c.in-DeleteBlockChunks.is c.put_chunk_cuts.ensures
