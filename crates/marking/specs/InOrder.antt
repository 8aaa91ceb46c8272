-- An edit with its ends in order.
use Rattle.text.specs.Rows.{earlier, later}
use Rattle.edit.specs.declared.MotionKind.TheVariants.{Char, Line, Block}
use Rattle.edit.specs.declared.Edit.{Edit}
use Rattle.edit.specs.declared.Edit.TheVariants.{InsertChar, InsertStr, DeleteRange, JoinLines, SplitLines, Replace, InsertBlock, DeleteBlockChunks}

-- "orders Char, Line and Replace ends"
unfoldable pub in_order : Edit → Edit
in_order (InsertChar p) = InsertChar p
in_order (InsertStr p) = InsertStr p
in_order (DeleteRange p q Char) = DeleteRange (earlier p q) (later p q) Char
in_order (DeleteRange p q Line) = DeleteRange (earlier p q) (later p q) Line
in_order (DeleteRange p q Block) = DeleteRange p q Block
in_order (JoinLines r n b) = JoinLines r n b
in_order (SplitLines r) = SplitLines r
in_order (Replace p q) = Replace (earlier p q) (later p q)
in_order (InsertBlock p) = InsertBlock p
in_order (DeleteBlockChunks p) = DeleteBlockChunks p
