use Rattle.shift.specs.Kinds.{shifted}
use Rattle.shift.proofs.Handed.{small-numbers, char_handed, str_handed, range_handed, replace_handed, deleted_handed, chunks_handed}
use Rattle.shift.proofs.follow.follow.Goals as goal

pub after_insert-requires : goal.after_insert-requires
after_insert-requires c = let a = c.args in char_handed a.text.now a.edit a.payload.now a.first.now a.pos c.requires.1 c.requires.2 c.requires.3 c.requires.4 _ c.in-InsertChar.is

pub after_insert-requires-in-InsertStr : goal.after_insert-requires-in-InsertStr
after_insert-requires-in-InsertStr c = let a = c.args in str_handed a.text.now a.edit a.payload.now a.first.now a.pos c.requires.1 c.requires.2 c.requires.3 c.requires.4 _ c.in-InsertStr.is

pub after_delete-requires : goal.after_delete-requires
after_delete-requires c = let a = c.args in range_handed a.text.now a.edit a.payload.now a.first.now a.pos c.requires.1 c.requires.2 c.requires.3 c.requires.4 _ _ _ c.in-DeleteRange.is

pub after_join-requires : goal.after_join-requires
after_join-requires c = let a = c.args in (c.requires.0, (small-numbers a.pos c.requires.1).1)

pub after_delete_char-deleted-requires : goal.after_delete_char-deleted-requires
after_delete_char-deleted-requires c = let a = c.args in replace_handed a.text.now a.edit a.payload.now a.first.now a.pos c.requires.1 c.requires.2 c.requires.3 c.requires.4 _ _ c.in-Replace.is

pub after_insert-requires-in-Replace : goal.after_insert-requires-in-Replace
after_insert-requires-in-Replace c = let a = c.args in deleted_handed a.text.now a.edit a.payload.now a.first.now a.pos c.requires.1 c.requires.2 c.requires.3 c.requires.4 _ _ c.in-Replace.is _ c.after_delete_char-deleted.ensures

pub after_insert_block-requires : goal.after_insert_block-requires
after_insert_block-requires c = let a = c.args in chunks_handed a.text.now a.edit a.payload.now a.first.now a.pos c.requires.1 c.requires.2 c.requires.3 c.requires.4 _ c.in-InsertBlock.is

pub returns-in-InsertChar : goal.returns-in-InsertChar
unfolding shifted
returns-in-InsertChar c = rw (c.in-InsertChar.is, c.after_insert.ensures)

pub returns-in-InsertStr : goal.returns-in-InsertStr
unfolding shifted
returns-in-InsertStr c = rw (c.in-InsertStr.is, c.after_insert-in-InsertStr.ensures)

pub returns-in-DeleteRange : goal.returns-in-DeleteRange
unfolding shifted
returns-in-DeleteRange c = rw (c.in-DeleteRange.is, c.after_delete.ensures)

pub returns-in-JoinLines : goal.returns-in-JoinLines
unfolding shifted
returns-in-JoinLines c = rw (c.in-JoinLines.is, c.after_join.ensures)

pub returns-in-SplitLines : goal.returns-in-SplitLines
unfolding shifted
returns-in-SplitLines c = rw c.in-SplitLines.is

pub returns-in-Replace : goal.returns-in-Replace
unfolding shifted
returns-in-Replace c = rw (c.in-Replace.is, c.after_insert-in-Replace.ensures, c.after_delete_char-deleted.ensures)

pub returns-in-InsertBlock : goal.returns-in-InsertBlock
unfolding shifted
returns-in-InsertBlock c = rw (c.in-InsertBlock.is, c.after_insert_block.ensures)

pub returns-in-DeleteBlockChunks : goal.returns-in-DeleteBlockChunks
unfolding shifted
returns-in-DeleteBlockChunks c = rw (c.in-DeleteBlockChunks.is, c.after_delete_block_chunks.ensures)
