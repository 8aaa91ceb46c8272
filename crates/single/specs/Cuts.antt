-- What a delete cuts, as code finds it.
use mathlib.Core.Bool.{true, false}
use Prim.Native.Nat.{ℕ, min, max}
use mathlib.Core.List.{List}
use Rattle.text.specs.declared.Position.{Position}
use Rattle.text.specs.Rows.{char_at, last_row, offset}
use Rattle.text.specs.Text.{is_lf}
use Rattle.edit.specs.Edits.{cut_from, cut_to, line_from, line_to, row_at}
use Rattle.edit.specs.declared.Edit.TheVariants.{InsertStr}
use Rattle.steps.specs.declared.Resolved.{Resolved}
use Rattle.single.specs.declared.Cut.{Cut}
use Rattle.single.specs.declared.LineCut.{LineCut}

abbrev pub cut_between : ℕ → ℕ → Cut
cut_between a e = record { start = char_at a; end = char_at e }

abbrev pub char_cut : List ℕ → Position → Position → Cut
char_cut t p q = cut_between (cut_from is_lf t p q) (cut_to is_lf t p q)

-- rows lo to hi, which the text has
abbrev pub rows_cut : List ℕ → ℕ → ℕ → LineCut
rows_cut t lo hi =
    record { lo = row_at lo; back = line_from is_lf t lo hi; cut = cut_between (offset is_lf t (line_from is_lf t lo hi)) (line_to is_lf t hi) }

-- "order, clamp both rows to lo..hi"
abbrev pub line_cut : List ℕ → ℕ → ℕ → LineCut
line_cut t a b = rows_cut t (min (min a b) (last_row is_lf t)) (min (max a b) (last_row is_lf t))

-- one step, with the insertion of what it cuts as the inverse
abbrev pub cut_resolved : Position → Position → Resolved
cut_resolved back cursor =
    record { steps = 1; made = 32; within = true; inverse = InsertStr back; first = 0; second = 0; start = char_at 0; cursor = cursor; settled = false }
