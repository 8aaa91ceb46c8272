-- The box test.
use Rattle.std.specs.Prelude.{not, ◌&&◌, List, [], ◌∷◌, ℕ, suc, take}
use Rattle.promise.specs.Paper.{Paper, done, refused}
use Rattle.text.specs.declared.Position.{Position}
use Rattle.text.specs.Rows.{Line, lines, at}
use Rattle.text.specs.Text.{is_lf, text_ok}
use Rattle.edit.specs.declared.Refusal.TheVariants.{BadText, TooBig}
use Rattle.edit.specs.Refusals.{small}
use Rattle.edit.specs.Call.{first_of}
use Rattle.cells.specs.Cells.{first_outside}
use Rattle.std.specs.Prelude.{Result, Ok, Err, Option, Some, None}
use Rattle.fit.specs.declared.BoxError.{BoxError}
use Rattle.fit.specs.declared.BoxError.TheVariants as box_error

-- the first row that is wider than the box, and "the first character whose last cell lies outside"; "or AllFit"
pub data Fit : Type 0 where
  all_fit : Fit
  leaves : Position → Fit

abbrev pub fit_of : Option Position → Fit
fit_of None = all_fit
fit_of (Some p) = leaves p

abbrev pub paper_box_fit : Result (Option Position) BoxError → Paper Fit
paper_box_fit (Ok o) = done (fit_of o)
paper_box_fit (Err box_error.BadText) = refused 1 0
paper_box_fit (Err box_error.TooBig) = refused 2 0

-- row r leaves at a column, or what is found behind it
unfoldable pub row_or : ℕ → Option ℕ → Fit → Fit
row_or r None f = f
row_or r (Some c) f = leaves (at r c)

-- the first of some rows that leaves, the first of them being row r. "LF has none": it is in no row's body
unfoldable pub first_over : ℕ → ℕ → ℕ → List (Line ℕ) → Fit
first_over cells tab r [] = all_fit
first_over cells tab r (l ∷ ls) = row_or r (first_outside cells tab l.body) (first_over cells tab (suc r) ls)

-- "Refusals: a box or tab width over 1,000,000 is 2 TooBig.", behind row 1
unfoldable pub fits_in : List ℕ → ℕ → ℕ → ℕ → Paper Fit
fits_in buffer used cells tab =
    first_of ((not (text_ok buffer used), BadText) ∷ (not (small cells && small tab), TooBig) ∷ [])
    (done (first_over cells tab 0 (lines is_lf (take used buffer))))
