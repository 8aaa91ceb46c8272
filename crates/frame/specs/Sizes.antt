-- How many bytes an edit's frame takes: one for its kind, four for a number, one for a flag or a kind of delete.
use Rattle.std.specs.Prelude.{ℕ, ◌+◌, ◌*◌}
use Rattle.edit.specs.declared.Edit.{Edit}
use Rattle.edit.specs.declared.Edit.TheVariants.{InsertChar, InsertStr, DeleteRange, JoinLines, SplitLines, Replace, InsertBlock, DeleteBlockChunks}

-- by how many items its first list has, and how many octets its characters take
unfoldable pub size_of : Edit → ℕ → ℕ → ℕ
size_of (InsertChar p) items octets = 0
size_of (InsertStr p) items octets = 9 + octets
size_of (DeleteRange p q k) items octets = 18
size_of (JoinLines r n b) items octets = 10
size_of (SplitLines r) items octets = 5 + 5 * items
size_of (Replace p q) items octets = 17 + octets
size_of (InsertBlock p) items octets = 9 + (4 * items + octets)
size_of (DeleteBlockChunks p) items octets = 9 + 8 * items
