-- How many bytes a frame takes.
use mathlib.Core.Path.{◌≡◌, refl}
use mathlib.Core.Bool.{true}
use mathlib.Core.List.{List}
use Prim.Native.Nat.{ℕ}
use native.Mathlib.Omega.{arith}
use borrow.Author.Tests.{eqb-true}
use lib.ListN.{length}
use Rattle.utf8.specs.Reading.{writing}
use Rattle.edit.specs.declared.Edit.{Edit}
use Rattle.edit.specs.declared.Edit.TheVariants.{InsertChar, InsertStr, DeleteRange, JoinLines, SplitLines, Replace, InsertBlock, DeleteBlockChunks}
use Rattle.edit.specs.Refusals.{sum}
use Rattle.frame.specs.Format.{edit_bytes, has_bytes, edit_chars}
use Rattle.frame.specs.Sizes.{size_of}
use Rattle.frame_bytes.proofs.Listed.{columns-length, widths_length, chunks_length}

pub edit_length : (e : Edit) (x f s : List ℕ) → has_bytes e x f s ≡ true → length (edit_bytes e x f s) ≡ size_of e (length f) (length (writing (edit_chars e x)))
unfolding edit_bytes has_bytes edit_chars size_of
edit_length (InsertChar p) x f s h = refl
edit_length (InsertStr p) x f s h = omega arith
edit_length (DeleteRange p q k) x f s h = refl
edit_length (JoinLines r n b) x f s h = refl
edit_length (SplitLines r) x f s h = omega (arith, columns-length f s)
edit_length (Replace p q) x f s h = omega arith
edit_length (InsertBlock p) x f s h = omega (arith, chunks_length f x (eqb-true (sum f) (length x) h))
edit_length (DeleteBlockChunks p) x f s h = omega (arith, widths_length f s)
