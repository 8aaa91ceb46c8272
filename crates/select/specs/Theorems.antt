-- What is proved beside that the code meets its promises. The proofs stand in proofs/Theorems.antt.
use Rattle.std.specs.Prelude.{Bool, true, false, ◌≡◌, ℕ}
use Rattle.promise.specs.Settled.{Settles}
use Rattle.text.specs.declared.Position.{Position}
use Rattle.text.specs.Rows.{at}
use Rattle.select.specs.declared.Sel.{Sel}
use Rattle.select.specs.declared.Selection.{Selection}
use Rattle.select.specs.Answers.{Columns, none, between, from, has, paper_row_span}
use Rattle.select.specs.Sels.{covers, overlaps}
use Rattle.select.specs.Selections.{covers_at, row_span, row_bounds, outside}

-- Two selections overlap exactly where they share a position.
pub record Common (s t : Sel) : Type 0 where
  pub place : Position
  pub first : covers s place ≡ true
  pub second : covers t place ≡ true

pub record Shares (s t : Sel) : Type 0 where
  pub common : overlaps s t ≡ true → Common s t
  pub overlapping : Common s t → overlaps s t ≡ true

abbrev pub OverlapsShares : Type 0
OverlapsShares = (s t : Sel) → Shares s t

-- A row's span has just those columns at which the selection covers a position of the row.
abbrev pub SpanCovers : Type 0
SpanCovers = (s : Selection) (row col : ℕ) → has (row_span s row) col ≡ covers_at s (at row col)

-- It is none exactly outside of the selection's bounds.
abbrev pub is_none : Columns → Bool
is_none none = true
is_none (between lo hi) = false
is_none (from lo) = false

abbrev pub BoundsTell : Type 0
BoundsTell = (s : Selection) (row : ℕ) → is_none (row_span s row) ≡ outside (row_bounds s).top.0 (row_bounds s).bottom.0 row

-- The public promise settles its answer. (Those of the other functions are equations for the answer itself.)
pub record Settled : Type 0 where
  pub row_span : Settles paper_row_span
