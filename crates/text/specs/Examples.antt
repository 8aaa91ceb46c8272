-- What rules out wrong programs about rows and places: each line is what the promise asks for at one input, and above it stands the
-- program that answers something else there. In a text "/" is LF, 10; a is 97.
use Rattle.std.specs.Prelude.{◌≡◌, true, false, List, [], ◌∷◌, ◌++◌, ℕ, replicate}
use Rattle.text.specs.Rows.{at, char_at, upto, earlier, later, row_count, last_row, row_len, row_start, span, clamp, offset, in_text}
use Rattle.text.specs.Text.{is_lf, all_admissible, text_ok}

-- "ab/cd"
abbrev pub abcd : List ℕ
abcd = 97 ∷ 98 ∷ 10 ∷ 99 ∷ 100 ∷ []

pub record RuledOut : Type 0 where
  -- a text admitted by its last character
  pub admitted : all_admissible (13 ∷ 97 ∷ []) ≡ false
  -- a used length past the buffer admitted
  pub past_buffer : text_ok (97 ∷ []) 2 ≡ false
  -- a position that does not stand up to itself; the later of two given for the earlier, and the earlier for the later
  pub itself : upto (at 1 2) (at 1 2) ≡ true
  pub first : earlier (at 0 5) (at 1 0) ≡ at 0 5
  pub second : later (at 0 5) (at 1 0) ≡ at 1 0
  -- the last row's number the count of rows; the last row not counted
  pub last : last_row is_lf abcd ≡ 1
  pub rows : row_count is_lf abcd ≡ 2
  -- every row that an LF ends of length 0
  pub length : row_len is_lf abcd 0 ≡ 2
  -- rows looked for in blocks of 64 characters: those that end in the first block not taken off; its last character looked at twice
  pub passed : row_start is_lf (10 ∷ (replicate 63 97 ++ (10 ∷ 97 ∷ []))) 2 ≡ 65
  pub seam : row_start is_lf (replicate 63 97 ++ (10 ∷ replicate 64 97)) 2 ≡ 128
  -- every row that is found empty; a row past the last found, at the end of the text
  pub found : span is_lf abcd 0 ≡ record { row = record { 0 = 0 }; start = char_at 0; end = char_at 2 }
  pub found_last : span is_lf abcd 9 ≡ record { row = record { 0 = 1 }; start = char_at 3; end = char_at 5 }
  -- the smaller of two columns always the second, or of two rows the first
  pub stays : clamp is_lf abcd (at 1 1) ≡ at 1 1
  pub clamped : clamp is_lf abcd (at 9 1) ≡ at 1 1
  -- an offset with the row in place of the column
  pub counted : offset is_lf abcd (at 1 2) ≡ 5
  -- a position past its row's end, or past the last row, taken to be in the text
  pub past_row : in_text is_lf abcd (at 0 3) ≡ false
  pub past_last : in_text is_lf abcd (at 2 0) ≡ false
