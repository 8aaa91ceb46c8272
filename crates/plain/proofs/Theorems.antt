-- The proofs of specs/Theorems.antt.
use mathlib.Core.Bool.{true, false}
use mathlib.Core.Path.{refl}
use Rattle.edit.specs.declared.MotionKind.TheVariants.{Char, Line as Lines, Block}
use Rattle.edit.specs.declared.Edit.TheVariants.{InsertChar, InsertStr, DeleteRange, JoinLines, SplitLines, Replace, InsertBlock, DeleteBlockChunks}
use Rattle.plain.specs.Meanings.{item}
use Rattle.plain.specs.Theorems.{MeansTold}

pub means_told : MeansTold
unfolding item
means_told (InsertChar p) = refl
means_told (InsertStr p) = refl
means_told (DeleteRange p q Char) = refl
means_told (DeleteRange p q Lines) = refl
means_told (DeleteRange p q Block) = refl
means_told (JoinLines r n false) = refl
means_told (JoinLines r n true) = refl
means_told (SplitLines r) = refl
means_told (Replace p q) = refl
means_told (InsertBlock p) = refl
means_told (DeleteBlockChunks p) = refl
