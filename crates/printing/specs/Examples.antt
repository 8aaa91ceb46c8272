-- What rules out wrong printers: each line is what the promise asks for at one frame, and above it stands the program that prints something
-- else there. 0 is 48, 1 is 49, LF is 10.
use Rattle.std.specs.Prelude.{◌≡◌, [], ◌∷◌, ◌++◌}
use Rattle.hexline.specs.Digits.{hexed}
use Rattle.edit.specs.declared.Edit.TheVariants.{SplitLines}
use Rattle.edit.specs.Edits.{whole, row_at}
use Rattle.frame.specs.Format.{text, edit, frame_bytes}
use Rattle.printing.specs.Prints.{printed_as}

pub record RuledOut : Type 0 where
  -- the line of a text ended behind its first byte
  pub a_text : printed_as (frame_bytes (text (0x61 ∷ []))) ≡ 48 ∷ 49 ∷ 54 ∷ 49 ∷ 10 ∷ []
  -- an inverse's first list printed for its second
  pub inverse :
      printed_as (0 ∷ frame_bytes (edit (whole (SplitLines (row_at 0)) [] (3 ∷ []) (1 ∷ [])))) ≡ hexed (0x00 ∷ 0x13 ∷ 0 ∷ 0 ∷ 0 ∷ 0 ∷ 0 ∷ 0 ∷ 0 ∷ 3 ∷ 1 ∷ []) ++ (10 ∷ [])
