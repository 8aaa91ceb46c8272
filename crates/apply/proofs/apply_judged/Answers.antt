use mathlib.Core.Path.{refl}
use lib.Dec.{leb→le}
use lib.ListN.{length}
use Rattle.edit.specs.declared.MotionKind.TheVariants.{Char, Line, Block}
use Rattle.edit.specs.declared.Edit.TheVariants.{InsertChar, InsertStr, DeleteRange, JoinLines, SplitLines, Replace, InsertBlock, DeleteBlockChunks}
use Rattle.edit.specs.Edits.{edited_by, range_deleted}
use Rattle.edit.specs.Refusals.{within_ok, few_ok}
use Rattle.edit.specs.Call.{Lent, lent, result_of}
use Rattle.apply.proofs.Handed.{split-handed, block_handed, put-handed, cut_handed}
use Rattle.apply.proofs.Dispatch.{admitted, handed, finishes, ranged}
use Rattle.apply.proofs.apply_judged.Goals.{Start}
use Rattle.apply.proofs.apply_judged.Goals as goal

abbrev lends : Start → Lent
lends c = let a = c.args in lent a.text.now a.payload.now a.first.now a.second.now a.outpayload.now a.outfirst.now a.outsecond.now

pub insert-requires : goal.insert-requires
unfolding few_ok
insert-requires c = let a = c.args in let t = admitted a.view a.edit (lends (goal.at.insert-requires c).Start) c.requires in let h = handed a.view a.edit (lends (goal.at.insert-requires c).Start) c.requires (InsertChar _) c.in-InsertChar.is in (t.0, t.1, leb→le (length a.payload.now) 16384 h.fews, refl)

pub insert-requires-in-InsertStr : goal.insert-requires-in-InsertStr
unfolding few_ok
insert-requires-in-InsertStr c = let a = c.args in let t = admitted a.view a.edit (lends (goal.at.insert-requires-in-InsertStr c).Start) c.requires in let h = handed a.view a.edit (lends (goal.at.insert-requires-in-InsertStr c).Start) c.requires (InsertStr _) c.in-InsertStr.is in (t.0, t.1, leb→le (length a.payload.now) 16384 h.fews, refl)

pub delete_chars-requires : goal.delete_chars-requires
delete_chars-requires c = let a = c.args in let t = admitted a.view a.edit (lends (goal.at.delete_chars-requires c).Start) c.requires in (t.0, t.1, refl, refl)

pub delete_lines-requires : goal.delete_lines-requires
delete_lines-requires c = let a = c.args in let t = admitted a.view a.edit (lends (goal.at.delete_lines-requires c).Start) c.requires in (t.0, t.1, refl, refl)

pub delete_block-requires : goal.delete_block-requires
delete_block-requires c = let a = c.args in let t = admitted a.view a.edit (lends (goal.at.delete_block-requires c).Start) c.requires in let h = handed a.view a.edit (lends (goal.at.delete_block-requires c).Start) c.requires (DeleteRange _ _ Block) (ranged a.edit _ _ _ _ c.in-DeleteRange.is c.in-Block.is) in let k = block_handed a.view (lends (goal.at.delete_block-requires c).Start) _ _ h in (t.0, t.1, k.0, k.1, k.2, k.3, k.4, refl, refl, refl)

pub join-requires : goal.join-requires
join-requires c = let a = c.args in let t = admitted a.view a.edit (lends (goal.at.join-requires c).Start) c.requires in (t.0, t.1, refl, refl, refl)

pub split-requires : goal.split-requires
split-requires c = let a = c.args in let t = admitted a.view a.edit (lends (goal.at.split-requires c).Start) c.requires in let h = handed a.view a.edit (lends (goal.at.split-requires c).Start) c.requires (SplitLines _) c.in-SplitLines.is in (t.0, t.1, split-handed a.view (lends (goal.at.split-requires c).Start) _ h, refl)

pub replace-requires : goal.replace-requires
unfolding few_ok
replace-requires c = let a = c.args in let t = admitted a.view a.edit (lends (goal.at.replace-requires c).Start) c.requires in let h = handed a.view a.edit (lends (goal.at.replace-requires c).Start) c.requires (Replace _ _) c.in-Replace.is in (t.0, t.1, leb→le (length a.payload.now) 16384 h.fews, refl, refl)

pub insert_block-requires : goal.insert_block-requires
insert_block-requires c = let a = c.args in let t = admitted a.view a.edit (lends (goal.at.insert_block-requires c).Start) c.requires in let h = handed a.view a.edit (lends (goal.at.insert_block-requires c).Start) c.requires (InsertBlock _) c.in-InsertBlock.is in let k = put-handed a.view (lends (goal.at.insert_block-requires c).Start) _ h in (t.0, t.1, k.0, k.1, k.2, k.3, refl, refl, refl)

pub delete_chunks-requires : goal.delete_chunks-requires
delete_chunks-requires c = let a = c.args in let t = admitted a.view a.edit (lends (goal.at.delete_chunks-requires c).Start) c.requires in let h = handed a.view a.edit (lends (goal.at.delete_chunks-requires c).Start) c.requires (DeleteBlockChunks _) c.in-DeleteBlockChunks.is in let k = cut_handed a.view (lends (goal.at.delete_chunks-requires c).Start) _ h in (t.0, t.1, k.0, k.1, refl, refl, refl)

pub returns-in-InsertChar : goal.returns-in-InsertChar
unfolding result_of edited_by within_ok range_deleted
returns-in-InsertChar c = let a = c.args in finishes a.view a.edit (lends (goal.at.returns-in-InsertChar c).Start) c.requires (InsertChar _) c.in-InsertChar.is _ (c.insert.ensures a.payload.now a.first.now a.second.now a.outpayload.now a.outfirst.now a.outsecond.now refl)

pub returns-in-InsertStr : goal.returns-in-InsertStr
unfolding result_of edited_by within_ok range_deleted
returns-in-InsertStr c = let a = c.args in finishes a.view a.edit (lends (goal.at.returns-in-InsertStr c).Start) c.requires (InsertStr _) c.in-InsertStr.is _ (c.insert-in-InsertStr.ensures a.payload.now a.first.now a.second.now a.outpayload.now a.outfirst.now a.outsecond.now refl)

pub returns-in-Char : goal.returns-in-Char
unfolding result_of edited_by within_ok range_deleted
returns-in-Char c = let a = c.args in finishes a.view a.edit (lends (goal.at.returns-in-Char c).Start) c.requires (DeleteRange _ _ Char) (ranged a.edit _ _ _ _ c.in-DeleteRange.is c.in-Char.is) _ (c.delete_chars.ensures a.payload.now a.first.now a.second.now a.outfirst.now a.outsecond.now refl)

pub returns-in-Line : goal.returns-in-Line
unfolding result_of edited_by within_ok range_deleted
returns-in-Line c = let a = c.args in finishes a.view a.edit (lends (goal.at.returns-in-Line c).Start) c.requires (DeleteRange _ _ Line) (ranged a.edit _ _ _ _ c.in-DeleteRange.is c.in-Line.is) _ (c.delete_lines.ensures a.payload.now a.first.now a.second.now a.outfirst.now a.outsecond.now refl)

pub returns-in-Block : goal.returns-in-Block
unfolding result_of edited_by within_ok range_deleted
returns-in-Block c = let a = c.args in finishes a.view a.edit (lends (goal.at.returns-in-Block c).Start) c.requires (DeleteRange _ _ Block) (ranged a.edit _ _ _ _ c.in-DeleteRange.is c.in-Block.is) _ (c.delete_block.ensures a.payload.now a.first.now a.second.now a.outsecond.now refl)

pub returns-in-JoinLines : goal.returns-in-JoinLines
unfolding result_of edited_by within_ok range_deleted
returns-in-JoinLines c = let a = c.args in finishes a.view a.edit (lends (goal.at.returns-in-JoinLines c).Start) c.requires (JoinLines _ _ _) c.in-JoinLines.is _ (c.join.ensures a.payload.now a.first.now a.second.now a.outpayload.now refl)

pub returns-in-SplitLines : goal.returns-in-SplitLines
unfolding result_of edited_by within_ok range_deleted
returns-in-SplitLines c = let a = c.args in finishes a.view a.edit (lends (goal.at.returns-in-SplitLines c).Start) c.requires (SplitLines _) c.in-SplitLines.is _ (c.split.ensures a.payload.now a.first.now a.second.now a.outpayload.now a.outfirst.now a.outsecond.now refl)

pub returns-in-Replace : goal.returns-in-Replace
unfolding result_of edited_by within_ok range_deleted
returns-in-Replace c = let a = c.args in finishes a.view a.edit (lends (goal.at.returns-in-Replace c).Start) c.requires (Replace _ _) c.in-Replace.is _ (c.replace.ensures a.payload.now a.first.now a.second.now a.outfirst.now a.outsecond.now refl)

pub returns-in-InsertBlock : goal.returns-in-InsertBlock
unfolding result_of edited_by within_ok range_deleted
returns-in-InsertBlock c = let a = c.args in finishes a.view a.edit (lends (goal.at.returns-in-InsertBlock c).Start) c.requires (InsertBlock _) c.in-InsertBlock.is _ (c.insert_block.ensures a.payload.now a.first.now a.second.now a.outpayload.now refl)

pub returns-in-DeleteBlockChunks : goal.returns-in-DeleteBlockChunks
unfolding result_of edited_by within_ok range_deleted
returns-in-DeleteBlockChunks c = let a = c.args in finishes a.view a.edit (lends (goal.at.returns-in-DeleteBlockChunks c).Start) c.requires (DeleteBlockChunks _) c.in-DeleteBlockChunks.is _ (c.delete_chunks.ensures a.payload.now a.first.now a.second.now a.outsecond.now refl)
