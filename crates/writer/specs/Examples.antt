-- What rules out wrong writers of lines: each line is what the promise asks for at one frame, and above it stands the program that leaves
-- something else there.
use Rattle.std.specs.Prelude.{◌≡◌, [], ◌∷◌, ◌++◌, replicate}
use Rattle.promise.specs.Paper.{done, refused}
use Rattle.utf8.specs.Calls.{outcome}
use Rattle.text.specs.Rows.{at}
use Rattle.select.specs.Sels.{sel}
use Rattle.hexline.specs.Digits.{hexed}
use Rattle.edit.specs.declared.Edit.TheVariants.{DeleteBlockChunks}
use Rattle.edit.specs.Edits.{whole}
use Rattle.frame.specs.Format.{text, mark, edit}
use Rattle.writer.specs.Calls.{written_into}

pub record RuledOut : Type 0 where
  -- a text's line that begins as a mark's
  pub a_text : written_into (text (0x61 ∷ [])) (replicate 5 9) ≡ outcome (done 4) (hexed (0x01 ∷ 0x61 ∷ []) ++ (9 ∷ []))
  -- a mark's line that begins with 03; a position written column first
  pub a_mark :
      written_into (mark (sel (at 0 1) (at 2 3))) (replicate 34 9)
      ≡ outcome (done 34) (hexed (0x02 ∷ 0 ∷ 0 ∷ 0 ∷ 0 ∷ 0 ∷ 0 ∷ 0 ∷ 1 ∷ 0 ∷ 0 ∷ 0 ∷ 2 ∷ 0 ∷ 0 ∷ 0 ∷ 3 ∷ []))
  -- widths written with another number of pads
  pub pads : written_into (edit (whole (DeleteBlockChunks (at 0 0)) [] (1 ∷ []) (0 ∷ 0 ∷ []))) (replicate 40 9) ≡ outcome (refused 10 0) (replicate 40 9)
