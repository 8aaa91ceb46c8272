-- What rules out wrong box tests: each line is what the promise asks for at one input, and above it stands the program that answers something
-- else there. In a text "/" is LF, 10; a is 97, あ is 0x3042, a tab is 9 and CR, which no text may have, is 13.
use Rattle.std.specs.Prelude.{true, [], ◌∷◌, ◌≡◌, leb}
use Rattle.promise.specs.Paper.{done, refused}
use Rattle.text.specs.Rows.{at, lines}
use Rattle.text.specs.Text.{all, is_lf}
use Rattle.fit.specs.Calls.{all_fit, leaves, fits_in}
use Rattle.fit.specs.Theorems.{row_widths}

pub record RuledOut : Type 0 where
  -- "aaa" in 2 cells: the column one off
  pub column : fits_in (97 ∷ 97 ∷ 97 ∷ []) 3 2 8 ≡ done (leaves (at 0 2))
  -- "ああa" in 4: the cell for the column; "aあ" in 2: a character taken as inside that begins there
  pub cell : fits_in (0x3042 ∷ 0x3042 ∷ 97 ∷ []) 3 4 8 ≡ done (leaves (at 0 2))
  pub half : fits_in (97 ∷ 0x3042 ∷ []) 2 2 8 ≡ done (leaves (at 0 1))
  -- "aa/a/" in 2: a cell for LF; the last row looked for past the text
  pub breaks : fits_in (97 ∷ 97 ∷ 10 ∷ 97 ∷ 10 ∷ []) 5 2 8 ≡ done all_fit
  -- "aa/", a tab of width 2 and "a" in 3: cells counted on from the row before; the box for the tab width
  pub next_row : fits_in (97 ∷ 97 ∷ 10 ∷ 9 ∷ 97 ∷ []) 5 3 2 ≡ done all_fit
  -- "/ああ/あああ" in 3: the last row that leaves, or the widest
  pub first_row : fits_in (10 ∷ 0x3042 ∷ 0x3042 ∷ 10 ∷ 0x3042 ∷ 0x3042 ∷ 0x3042 ∷ []) 7 3 8 ≡ done (leaves (at 1 1))
  -- a tab of width 1 in no cell: a tab that stands still where it is a multiple
  pub tab : fits_in (9 ∷ []) 1 0 1 ≡ done (leaves (at 0 0))
  -- "aa" of which one is used, in 1: what stands behind the text looked at
  pub used : fits_in (97 ∷ 97 ∷ []) 1 1 8 ≡ done all_fit
  -- what is no text fits
  pub no_text : fits_in (13 ∷ []) 1 8 8 ≡ refused 1 0
  -- the box, or the tab width, of an empty text not judged; 1,000,000 judged too big, or cut to 16 bits
  pub big_box : fits_in [] 0 1_000_001 8 ≡ refused 2 0
  pub big_tab : fits_in [] 0 8 1_000_001 ≡ refused 2 0
  pub widest : fits_in (97 ∷ 9 ∷ 97 ∷ []) 3 1_000_000 1_000_000 ≡ done (leaves (at 0 2))

-- `FitsByWidth` is about some rows: those of "aa/", a tab and "a"
abbrev pub FittingRows : Type 0
FittingRows = all (λ w. leb w 3) (row_widths 2 (lines is_lf (97 ∷ 97 ∷ 10 ∷ 9 ∷ 97 ∷ []))) ≡ true
