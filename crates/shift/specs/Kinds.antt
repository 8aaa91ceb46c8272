-- Where a position lands after an edit, by its kind.
use Rattle.std.specs.Prelude.{List, ℕ}
use Rattle.text.specs.declared.Position.{Position}
use Rattle.edit.specs.declared.MotionKind.{MotionKind}
use Rattle.edit.specs.declared.MotionKind.TheVariants.{Char, Line as Lines, Block}
use Rattle.edit.specs.declared.Edit.{Edit}
use Rattle.edit.specs.declared.Edit.TheVariants.{InsertChar, InsertStr, DeleteRange, JoinLines, SplitLines, Replace, InsertBlock, DeleteBlockChunks}
use Rattle.after.specs.After.{after_insert, after_delete_char, after_delete_lines, after_delete_block, after_join, after_insert_block, after_delete_block_chunks}
use Rattle.shift.specs.Answers.{Followed, to, dropped}

-- a deleted range, by its kind of motion
unfoldable pub after_delete : Position → Position → Position → MotionKind → Position
after_delete p s e Char = after_delete_char p s e
after_delete p s e Lines = after_delete_lines p s.row.0 e.row.0
after_delete p s e Block = after_delete_block p s e

-- the text before the edit, the edit with its payload and its first list, and the position
unfoldable pub shifted : List ℕ → Edit → List ℕ → List ℕ → Position → Followed Position
shifted t (InsertChar q) x f p = to (after_insert p q x)
shifted t (InsertStr q) x f p = to (after_insert p q x)
shifted t (DeleteRange s e k) x f p = to (after_delete p s e k)
shifted t (JoinLines r n b) x f p = to (after_join p r.0 n b t)
shifted t (SplitLines r) x f p = dropped
-- "Delete then insert at the (now collapsed) start."
shifted t (Replace s e) x f p = to (after_insert (after_delete_char p s e) s x)
shifted t (InsertBlock q) x f p = to (after_insert_block p q f)
shifted t (DeleteBlockChunks q) x f p = to (after_delete_block_chunks p q f)
