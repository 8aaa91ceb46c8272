-- What the resolver asks of an edit, and which edit it resolves.
use mathlib.Core.List.{List}
use Prim.Native.Nat.{ℕ, min, max}
use lib.Dec.{T}
use Rattle.text.specs.declared.Position.{Position}
use Rattle.edit.specs.declared.MotionKind.{MotionKind}
use Rattle.edit.specs.declared.MotionKind.TheVariants.{Char, Line as Lines, Block}
use Rattle.edit.specs.declared.Edit.{Edit}
use Rattle.edit.specs.declared.Edit.TheVariants.{InsertChar, InsertStr, DeleteRange, JoinLines, SplitLines, Replace, InsertBlock, DeleteBlockChunks}
use Rattle.edit.specs.Edits.{height}
use Rattle.edit.specs.Refusals.{small_ok, few_ok, payload_ok}

-- rows 2 to 4 do not refuse the edit with payload x and lists f and s on the text t
pub record Admitted (e : Edit) (x f s t : List ℕ) : Type 0 where
  pub smalls : T (small_ok e f s)
  pub fews : T (few_ok t e x f s)
  pub payloads : T (payload_ok e x f)

-- a Replace cuts first
unfoldable pub cut_first : Edit → Edit
cut_first (InsertChar p) = InsertChar p
cut_first (InsertStr p) = InsertStr p
cut_first (DeleteRange p q k) = DeleteRange p q k
cut_first (JoinLines r n b) = JoinLines r n b
cut_first (SplitLines r) = SplitLines r
cut_first (Replace p q) = DeleteRange p q Char
cut_first (InsertBlock p) = InsertBlock p
cut_first (DeleteBlockChunks p) = DeleteBlockChunks p

-- how many steps it may come to, with n items in its first list
unfoldable pub range_most : Position → Position → MotionKind → ℕ
range_most p q Char = 1
range_most p q Lines = 1
range_most p q Block = height p q

unfoldable pub most_steps : Edit → ℕ → ℕ
most_steps (InsertChar p) n = 1
most_steps (InsertStr p) n = 1
most_steps (DeleteRange p q k) n = range_most p q k
most_steps (JoinLines r c b) n = min (max c 1) 256
most_steps (SplitLines r) n = n
most_steps (Replace p q) n = 1
most_steps (InsertBlock p) n = n
most_steps (DeleteBlockChunks p) n = n
