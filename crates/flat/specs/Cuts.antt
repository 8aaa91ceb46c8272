-- What a delete cuts, as code finds it.
use Rattle.std.specs.Prelude.{ℕ, min, max, List}
use Rattle.text.specs.declared.Position.{Position}
use Rattle.text.specs.Rows.{char_at, last_row, offset}
use Rattle.text.specs.Text.{is_lf}
use Rattle.edit.specs.Edits.{cut_from, cut_to, line_from, line_to, row_at}
use Rattle.flat.specs.declared.Cut.{Cut}
use Rattle.flat.specs.declared.LineCut.{LineCut}

abbrev pub cut_of : ℕ → ℕ → Cut
cut_of a e = record { start = char_at a; end = char_at e }

abbrev pub char_cut : List ℕ → Position → Position → Cut
char_cut t p q = cut_of (cut_from is_lf t p q) (cut_to is_lf t p q)

-- rows lo to hi, which the text has
abbrev pub rows_cut : List ℕ → ℕ → ℕ → LineCut
rows_cut t lo hi =
    record { lo = row_at lo; back = line_from is_lf t lo hi; cut = cut_of (offset is_lf t (line_from is_lf t lo hi)) (line_to is_lf t hi) }

-- "order, clamp both rows to lo..hi"
abbrev pub line_cut : List ℕ → ℕ → ℕ → LineCut
line_cut t a b = rows_cut t (min (min a b) (last_row is_lf t)) (min (max a b) (last_row is_lf t))
