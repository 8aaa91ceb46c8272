use Rattle.resolve.specs.Admits.{cut_first}
use Rattle.edit.specs.declared.Edit.TheVariants.{InsertChar, InsertStr, DeleteRange, JoinLines, SplitLines, Replace, InsertBlock, DeleteBlockChunks}
use Rattle.edit.specs.declared.MotionKind.TheVariants.{Char, Line, Block}
use Rattle.resolve.proofs.Dispatch.{ranged, char_handed, str_handed, chars_handed, lines-handed, block_handed, join-handed, split-handed, replace_handed, put-handed, cut_handed, resolved, char_resolves}
use Rattle.resolve.proofs.resolve.Goals as goal

pub resolve_insert-requires : goal.resolve_insert-requires
resolve_insert-requires c = let a = c.args in
    let h = char_handed a.edit a.payload.now a.first.now a.second.now a.text.now a.steps.now c.requires.1 c.requires.2 _ c.in-InsertChar.is in (c.requires.0, h.0, h.1)

pub resolve_insert-requires-in-InsertStr : goal.resolve_insert-requires-in-InsertStr
resolve_insert-requires-in-InsertStr c = let a = c.args in
    let h = str_handed a.edit a.payload.now a.first.now a.second.now a.text.now a.steps.now c.requires.1 c.requires.2 _ c.in-InsertStr.is in (c.requires.0, h.0, h.1)

pub resolve_chars-requires : goal.resolve_chars-requires
resolve_chars-requires c = let a = c.args in
    let h = chars_handed a.edit a.payload.now a.first.now a.second.now a.text.now a.steps.now c.requires.1 c.requires.2 _ _ (ranged a.edit _ _ _ _ c.in-DeleteRange.is c.in-Char.is) in (c.requires.0, h)

pub resolve_lines-requires : goal.resolve_lines-requires
resolve_lines-requires c = let a = c.args in
    let h = lines-handed a.edit a.payload.now a.first.now a.second.now a.text.now a.steps.now c.requires.1 c.requires.2 _ _ (ranged a.edit _ _ _ _ c.in-DeleteRange.is c.in-Line.is) in (c.requires.0, h)

pub resolve_block-requires : goal.resolve_block-requires
resolve_block-requires c = let a = c.args in
    let h = block_handed a.edit a.payload.now a.first.now a.second.now a.text.now a.steps.now c.requires.1 c.requires.2 _ _ (ranged a.edit _ _ _ _ c.in-DeleteRange.is c.in-Block.is) in (c.requires.0, h.0, h.1, h.2, h.3)

pub resolve_join-requires : goal.resolve_join-requires
resolve_join-requires c = let a = c.args in
    let h = join-handed a.edit a.payload.now a.first.now a.second.now a.text.now a.steps.now c.requires.1 c.requires.2 _ _ _ c.in-JoinLines.is in (c.requires.0, h.0, h.1)

pub resolve_split-requires : goal.resolve_split-requires
resolve_split-requires c = let a = c.args in
    let h = split-handed a.edit a.payload.now a.first.now a.second.now a.text.now a.steps.now c.requires.1 c.requires.2 _ c.in-SplitLines.is in (c.requires.0, h.0, h.1)

pub resolve_chars-requires-in-Replace : goal.resolve_chars-requires-in-Replace
resolve_chars-requires-in-Replace c = let a = c.args in
    let h = replace_handed a.edit a.payload.now a.first.now a.second.now a.text.now a.steps.now c.requires.1 c.requires.2 _ _ c.in-Replace.is in (c.requires.0, h)

pub resolve_put-requires : goal.resolve_put-requires
resolve_put-requires c = let a = c.args in
    let h = put-handed a.edit a.payload.now a.first.now a.second.now a.text.now a.steps.now c.requires.1 c.requires.2 _ c.in-InsertBlock.is in (c.requires.0, h.0, h.1)

pub resolve_chunks-requires : goal.resolve_chunks-requires
resolve_chunks-requires c = let a = c.args in
    let h = cut_handed a.edit a.payload.now a.first.now a.second.now a.text.now a.steps.now c.requires.1 c.requires.2 _ c.in-DeleteBlockChunks.is in (c.requires.0, h.0, h.1)

pub returns-in-InsertChar : goal.returns-in-InsertChar
unfolding cut_first
returns-in-InsertChar c = let a = c.args in
    resolved a.edit (InsertChar _) c.in-InsertChar.is _ _ a.payload.now a.first.now a.second.now a.text.now (char_resolves _ _ a.payload.now a.first.now a.second.now a.text.now _ (c.resolve_insert.ensures a.first.now a.second.now))

pub returns-in-InsertStr : goal.returns-in-InsertStr
unfolding cut_first
returns-in-InsertStr c = let a = c.args in
    resolved a.edit (InsertStr _) c.in-InsertStr.is _ _ a.payload.now a.first.now a.second.now a.text.now (c.resolve_insert-in-InsertStr.ensures a.first.now a.second.now)

pub returns-in-Char : goal.returns-in-Char
unfolding cut_first
returns-in-Char c = let a = c.args in
    resolved a.edit (DeleteRange _ _ Char) (ranged a.edit _ _ _ _ c.in-DeleteRange.is c.in-Char.is) _ _ a.payload.now a.first.now a.second.now a.text.now (c.resolve_chars.ensures a.payload.now a.first.now a.second.now)

pub returns-in-Line : goal.returns-in-Line
unfolding cut_first
returns-in-Line c = let a = c.args in
    resolved a.edit (DeleteRange _ _ Line) (ranged a.edit _ _ _ _ c.in-DeleteRange.is c.in-Line.is) _ _ a.payload.now a.first.now a.second.now a.text.now (c.resolve_lines.ensures a.payload.now a.first.now a.second.now)

pub returns-in-Block : goal.returns-in-Block
unfolding cut_first
returns-in-Block c = let a = c.args in
    resolved a.edit (DeleteRange _ _ Block) (ranged a.edit _ _ _ _ c.in-DeleteRange.is c.in-Block.is) _ _ a.payload.now a.first.now a.second.now a.text.now (c.resolve_block.ensures a.payload.now a.first.now a.second.now)

pub returns-in-JoinLines : goal.returns-in-JoinLines
unfolding cut_first
returns-in-JoinLines c = let a = c.args in
    resolved a.edit (JoinLines _ _ _) c.in-JoinLines.is _ _ a.payload.now a.first.now a.second.now a.text.now (c.resolve_join.ensures a.payload.now a.first.now a.second.now)

pub returns-in-SplitLines : goal.returns-in-SplitLines
unfolding cut_first
returns-in-SplitLines c = let a = c.args in
    resolved a.edit (SplitLines _) c.in-SplitLines.is _ _ a.payload.now a.first.now a.second.now a.text.now (c.resolve_split.ensures a.payload.now)

pub returns-in-Replace : goal.returns-in-Replace
unfolding cut_first
returns-in-Replace c = let a = c.args in
    resolved a.edit (Replace _ _) c.in-Replace.is _ _ a.payload.now a.first.now a.second.now a.text.now (c.resolve_chars-in-Replace.ensures a.payload.now a.first.now a.second.now)

pub returns-in-InsertBlock : goal.returns-in-InsertBlock
unfolding cut_first
returns-in-InsertBlock c = let a = c.args in
    let h = put-handed a.edit a.payload.now a.first.now a.second.now a.text.now a.steps.now c.requires.1 c.requires.2 _ c.in-InsertBlock.is in
    resolved a.edit (InsertBlock _) c.in-InsertBlock.is _ _ a.payload.now a.first.now a.second.now a.text.now (c.resolve_put.ensures a.payload.now a.second.now h.2)

pub returns-in-DeleteBlockChunks : goal.returns-in-DeleteBlockChunks
unfolding cut_first
returns-in-DeleteBlockChunks c = let a = c.args in
    resolved a.edit (DeleteBlockChunks _) c.in-DeleteBlockChunks.is _ _ a.payload.now a.first.now a.second.now a.text.now (c.resolve_chunks.ensures a.payload.now)
