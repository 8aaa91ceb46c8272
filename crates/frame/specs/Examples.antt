-- What rules out wrong readers of forms: each line is what the promise asks for at one frame's bytes, and above it stands the program that
-- answers something else there.
use Rattle.std.specs.Prelude.{◌≡◌, [], ◌∷◌, ◌++◌, replicate}
use Rattle.text.specs.Rows.{at}
use Rattle.edit.specs.declared.MotionKind.TheVariants.{Line}
use Rattle.edit.specs.declared.Edit.TheVariants.{InsertStr, DeleteRange}
use Rattle.frame.specs.Forms.{malformed, edit, plain, form_of}

pub record RuledOut : Type 0 where
  -- a position's row and column exchanged
  pub insert : form_of (0x10 ∷ 0 ∷ 0 ∷ 0 ∷ 1 ∷ 0 ∷ 0 ∷ 0 ∷ 2 ∷ 0x58 ∷ []) ≡ edit (InsertStr (at 1 2)) 9 ((0x58 ∷ []) ∷ []) [] []
  -- kind byte 1 a Block delete
  pub kind_line : form_of (0x11 ∷ 1 ∷ replicate 16 0) ≡ plain (DeleteRange (at 0 0) (at 0 0) Line)
  -- a first byte 03 a mark; a mark with a byte left over
  pub three : form_of (0x03 ∷ replicate 16 0) ≡ malformed
  pub mark_longer : form_of (0x02 ∷ replicate 17 0) ≡ malformed
  -- a join's flag byte 2; half a chunk
  pub join_flag : form_of (0x12 ∷ (replicate 8 0 ++ (2 ∷ []))) ≡ malformed
  pub half_chunk : form_of (0x16 ∷ replicate 12 0) ≡ malformed
