-- What an edit makes of a text is what its steps weave.
use mathlib.Core.Path.{◌≡◌}
use mathlib.Core.Bool.{Bool}
use mathlib.Core.List.{List, []}
use Prim.Native.Nat.{ℕ}
use lib.ListN.{replicate}
use Rattle.text.specs.declared.Position.{Position}
use Rattle.edit.specs.declared.MotionKind.{MotionKind}
use Rattle.edit.specs.declared.MotionKind.TheVariants.{Char, Line as Lines, Block}
use Rattle.edit.specs.declared.Edit.{Edit}
use Rattle.edit.specs.declared.Edit.TheVariants.{InsertChar, InsertStr, DeleteRange, JoinLines, SplitLines, Replace, InsertBlock, DeleteBlockChunks}
use Rattle.edit.specs.Edits.{Made, corner, height, breadth, range_deleted, edited_by}
use Rattle.steps.specs.Steps.{woven}
use Rattle.steps.specs.Kinds.{range_steps, steps_by, makes}
use Rattle.steps.proofs.Laws.{inserted-woven, chars_woven, block_woven, chunks_woven, joined-woven}
use Rattle.steps.proofs.Splits.{split_text}
use Rattle.steps.proofs.Flats.{lines-woven, replaced-woven}

module _ {A : Type 0} (lf sp : A → Bool) (made : Made A) where
  range_text : (p q : Position) (k : MotionKind) (t : List A) → (range_deleted lf sp made t p q k).text ≡ woven made.pad (range_steps lf sp made p q k t) t
  unfolding range_deleted range_steps
  range_text p q Char t = chars_woven lf made.pad t p q
  range_text p q Lines t = lines-woven lf made.pad t p q
  range_text p q Block t = chunks_woven lf sp made t (corner p q) (replicate (height p q) (breadth p q)) []

  pub steps_text : (e : Edit) (x : List A) (f s : List ℕ) (t : List A) → (edited_by lf sp made e x f s t).text ≡ woven (makes made e) (steps_by lf sp made e x f s t) t
  unfolding edited_by steps_by makes
  steps_text (InsertChar p) x f s t = inserted-woven lf made.pad t p x
  steps_text (InsertStr p) x f s t = inserted-woven lf made.pad t p x
  steps_text (DeleteRange p q k) x f s t = range_text p q k t
  steps_text (JoinLines r n b) x f s t = joined-woven lf sp made t r.0 n b
  steps_text (SplitLines r) x f s t = split_text lf sp made t r.0 f s
  steps_text (Replace p q) x f s t = replaced-woven lf made.pad t p q x
  steps_text (InsertBlock p) x f s t = block_woven lf sp made t p x f
  steps_text (DeleteBlockChunks p) x f s t = chunks_woven lf sp made t p f s
