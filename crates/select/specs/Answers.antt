-- What each case of an answer says in document 01's words.
use Rattle.std.specs.Prelude.{Bool, false, ◌&&◌, ℕ, leb}
use Rattle.select.specs.declared.RowSpan.{RowSpan}
use Rattle.select.specs.declared.RowSpan.TheVariants as row_span

-- "`row_span`'s open right end, the Rust's `usize::MAX`, is a case, not a largest number."
pub data Columns : Type 0 where
  none : Columns
  between : ℕ → ℕ → Columns
  from : ℕ → Columns

abbrev pub paper_row_span : RowSpan → Columns
paper_row_span row_span.Outside = none
paper_row_span (row_span.Closed lo hi) = between lo.0 hi.0
paper_row_span (row_span.Open lo) = from lo.0

-- whether a column is among them
abbrev pub has : Columns → ℕ → Bool
has none c = false
has (between lo hi) c = leb lo c && leb c hi
has (from lo) c = leb lo c
