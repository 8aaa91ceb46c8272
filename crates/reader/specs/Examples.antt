-- What rules out wrong readers of lines: each line is what the promise asks for at one frame, read into slices full of 9, and above it stands
-- the program that leaves something else there.
use Rattle.std.specs.Prelude.{◌≡◌, List, [], ◌∷◌, ◌++◌, ℕ, replicate}
use Rattle.promise.specs.Paper.{done, refused}
use Rattle.text.specs.Rows.{at}
use Rattle.hexline.specs.Digits.{hexed}
use Rattle.edit.specs.declared.Edit.TheVariants.{InsertStr, SplitLines, InsertBlock, DeleteBlockChunks}
use Rattle.edit.specs.Edits.{row_at}
use Rattle.frame.specs.Numbers.{number}
use Rattle.frame.specs.Reads.{frame_read}
use Rattle.reader.specs.Calls.{Filled, filled, read_into, text, edit}

-- the line of these bytes, read into so many places of each slice
abbrev pub read_of : List ℕ → ℕ → ℕ → ℕ → Filled
read_of bytes x f s = read_into (frame_read (hexed bytes)) (replicate x 9) (replicate f 9) (replicate s 9)

abbrev pub origin : List ℕ
origin = replicate 8 0

pub record RuledOut : Type 0 where
  -- the last byte of an insertion's column read as a character
  pub insert : read_of (0x10 ∷ (origin ++ (0x58 ∷ []))) 2 0 0 ≡ filled (done (edit (InsertStr (at 0 0)) 1 0 0)) (0x58 ∷ 9 ∷ []) [] []
  -- columns put into the second list and flags into the first
  pub split : read_of (0x13 ∷ (number 0 ++ (number 2 ++ (1 ∷ [])))) 0 1 1 ≡ filled (done (edit (SplitLines (row_at 0)) 0 1 1)) [] (2 ∷ []) (1 ∷ [])
  -- widths read as pads and pads as widths
  pub chunks : read_of (0x16 ∷ (origin ++ (number 1 ++ number 2))) 0 1 1 ≡ filled (done (edit (DeleteBlockChunks (at 0 0)) 0 1 1)) [] (1 ∷ []) (2 ∷ [])
  -- as many chunks as the first list has places without room
  pub block : read_of (0x15 ∷ (origin ++ (number 1 ++ (0x58 ∷ [])))) 1 1 0 ≡ filled (done (edit (InsertBlock (at 0 0)) 1 1 0)) (0x58 ∷ []) (1 ∷ []) []
  -- the offset of a bad sequence counted from its string, or from a block's strings
  pub bad_string : read_of (0x10 ∷ (origin ++ (0x58 ∷ 0xFF ∷ []))) 2 0 0 ≡ filled (refused 5 10) (9 ∷ 9 ∷ []) [] []
  pub bad_chunk : read_of (0x15 ∷ (origin ++ (number 1 ++ (0x58 ∷ (number 1 ++ (0xFF ∷ [])))))) 2 2 0 ≡ filled (refused 5 18) (9 ∷ 9 ∷ []) (9 ∷ 9 ∷ []) []
  -- a line of 512 digits read into an array of 255 bytes
  pub longest_short : read_of (0x01 ∷ replicate 255 0x61) 256 0 0 ≡ filled (done (text 255)) (replicate 255 0x61 ++ (9 ∷ [])) [] []
