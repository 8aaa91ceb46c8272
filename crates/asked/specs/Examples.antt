-- What rules out wrong readers of one frame: each line is what the promise asks for at one line of a script, read into slices full of 9, and above
-- it stands the program that leaves something else there.
use Rattle.std.specs.Prelude.{◌≡◌, [], ◌∷◌, ◌++◌, replicate}
use Rattle.promise.specs.Paper.{done, refused}
use Rattle.utf8.specs.Calls.{outcome}
use Rattle.text.specs.Rows.{at}
use Rattle.select.specs.Sels.{sel}
use Rattle.hexline.specs.Digits.{hexed}
use Rattle.edit.specs.declared.Edit.TheVariants.{InsertStr}
use Rattle.frame.specs.Numbers.{number}
use Rattle.frame.specs.Forms.{line_form, head_of}
use Rattle.reader.specs.Calls.{filled, edit}
use Rattle.asked.specs.Calls.{text_into, mark_in, edit_into}

pub record RuledOut : Type 0 where
  -- an edit's payload read as a text, or written before the line is refused
  pub no_text : text_into (line_form (hexed (0x10 ∷ (replicate 8 0 ++ (0x58 ∷ []))))) (9 ∷ []) ≡ outcome (refused 10 0) (9 ∷ [])
  -- a bad sequence of another frame answered as 5
  pub no_text_bad : text_into (line_form (hexed (0x10 ∷ (replicate 8 0 ++ (0xFF ∷ []))))) (9 ∷ []) ≡ outcome (refused 10 0) (9 ∷ [])
  -- a text's first byte counted among its characters; the rest of the slice cleared
  pub chars : text_into (line_form (hexed (0x01 ∷ 0x61 ∷ []))) (9 ∷ 9 ∷ []) ≡ outcome (done 1) (0x61 ∷ 9 ∷ [])
  -- the offset of a bad sequence counted in the text
  pub bad : text_into (line_form (hexed (0x01 ∷ 0x61 ∷ 0xFF ∷ []))) (9 ∷ 9 ∷ []) ≡ outcome (refused 5 2) (9 ∷ 9 ∷ [])
  -- a text answered as a mark at the origin; anchor and head exchanged
  pub no_mark : mark_in (head_of (line_form (hexed (0x01 ∷ [])))) ≡ refused 10 0
  pub mark : mark_in (head_of (line_form (hexed (0x02 ∷ (number 0 ++ number 1 ++ number 2 ++ number 3))))) ≡ done (sel (at 0 1) (at 2 3))
  -- a text read as an insertion at the front, or written to the payload's slice
  pub no_edit : edit_into (line_form (hexed (0x01 ∷ 0x61 ∷ []))) (9 ∷ []) [] [] ≡ filled (refused 10 0) (9 ∷ []) [] []
  pub an_edit : edit_into (line_form (hexed (0x10 ∷ (replicate 8 0 ++ (0x58 ∷ []))))) (9 ∷ 9 ∷ []) (9 ∷ []) (9 ∷ []) ≡ filled (done (edit (InsertStr (at 0 0)) 1 0 0)) (0x58 ∷ 9 ∷ []) (9 ∷ []) (9 ∷ [])
