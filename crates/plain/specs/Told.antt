-- What a caller is told of an answer. "A refusal yields its number (offset 0 except for 5)"; the number is 0 where nothing is refused, and
-- what is not said is 0 or no.
use Rattle.std.specs.Prelude.{Bool, true, false, ℕ}
use Rattle.std.specs.Prelude.{Option, Some, None}
use Rattle.promise.specs.Paper.{Paper, done, refused}
use Rattle.text.specs.declared.Position.{Position}
use Rattle.text.specs.Rows.{at}
use Rattle.fit.specs.Calls.{Fit, all_fit, leaves}
use Rattle.edit.specs.declared.View.{View}
use Rattle.edit.specs.declared.Applied.{Applied}
use Rattle.edit.specs.declared.Edit.{Edit}
use Rattle.select.specs.declared.RowBounds.{RowBounds}
use Rattle.select.specs.declared.Sel.{Sel}
use Rattle.select.specs.declared.Selection.{Selection}
use Rattle.select.specs.Answers.{Columns, none, between, from}
use Rattle.select.specs.Selections.{anchor_of, head_of}
use Rattle.plain.specs.declared.Bounds.{Bounds}
use Rattle.plain.specs.declared.Change.{Change}
use Rattle.plain.specs.declared.Count.{Count}
use Rattle.plain.specs.declared.Cover.{Cover}
use Rattle.plain.specs.declared.EditLine.{EditLine}
use Rattle.plain.specs.declared.Found.{Found}
use Rattle.plain.specs.declared.Said.{Said}
use Rattle.plain.specs.declared.SelFound.{SelFound}
use Rattle.plain.specs.declared.Viewed.{Viewed}
use Rattle.plain.specs.Meanings.{at_place, numbers_of}

abbrev pub told_count : Paper ℕ → Count
told_count (done n) = record { refusal = 0; offset = 0; count = n }
told_count (refused n k) = record { refusal = n; offset = k; count = 0 }

abbrev pub told_done : Applied → Change
told_done a =
    record { refusal = 0; offset = 0; view = a.view; inverse = numbers_of a.inverse; payload = a.payload; first = a.first; second = a.second }

-- an edit of the view v: a refusal leaves it
abbrev pub told_applied : View → Paper Applied → Change
told_applied v (done a) = told_done a
told_applied v (refused n k) =
    record { refusal = n; offset = k; view = v; inverse = at_place 0 (at 0 0); payload = 0; first = 0; second = 0 }

-- a position, or none, which is a refusal if n is not 0
abbrev pub found_at : Position → Found
found_at p = record { refusal = 0; found = true; at = p }

abbrev pub not_found : ℕ → Found
not_found n = record { refusal = n; found = false; at = at 0 0 }

abbrev pub told_clamped : Paper Position → Found
told_clamped (done p) = found_at p
told_clamped (refused n k) = not_found n

-- a position, where there is one
abbrev pub found_of : Option Position → Found
found_of (Some p) = found_at p
found_of None = not_found 0

abbrev pub told_fit : Paper Fit → Found
told_fit (done all_fit) = not_found 0
told_fit (done (leaves p)) = found_at p
told_fit (refused n k) = not_found n

abbrev pub found_sel : Sel → SelFound
found_sel s = record { refusal = 0; found = true; sel = s }

abbrev pub no_sel : ℕ → SelFound
no_sel n = record { refusal = n; found = false; sel = record { anchor = at 0 0; head = at 0 0 } }

abbrev pub no_cover : ℕ → Cover
no_cover n = record { refusal = n; covered = false; «open» = false; lo = 0; hi = 0 }

abbrev pub told_span : Columns → Cover
told_span none = no_cover 0
told_span (between lo hi) = record { refusal = 0; covered = true; «open» = false; lo = lo; hi = hi }
told_span (from lo) = record { refusal = 0; covered = true; «open» = true; lo = lo; hi = 0 }

-- the rows of a selection, or none, which is a refusal
abbrev pub no_bounds : ℕ → Bounds
no_bounds n = record { refusal = n; top = 0; bottom = 0 }

abbrev pub told_bounds : RowBounds → Bounds
told_bounds b = record { refusal = 0; top = b.top.0; bottom = b.bottom.0 }

-- the ends of a selection of any kind: those of a Line have column 0
abbrev pub ends_of : Selection → Sel
ends_of s = record { anchor = anchor_of s; head = head_of s }

-- a call of the view v that edits nothing: a refusal leaves it
abbrev pub told_view : View → Paper View → Viewed
told_view v (done w) = record { refusal = 0; view = w }
told_view v (refused n k) = record { refusal = n; view = v }

-- an edit that a line is, with how much of its payload and lists was written; or none
abbrev pub told_line : Edit → ℕ → ℕ → ℕ → EditLine
told_line e x f s = record { refusal = 0; offset = 0; edit = numbers_of e; payload = x; first = f; second = s }

abbrev pub no_line : ℕ → ℕ → EditLine
no_line n k = record { refusal = n; offset = k; edit = at_place 0 (at 0 0); payload = 0; first = 0; second = 0 }

abbrev pub told_yes : Paper Bool → Said
told_yes (done b) = record { refusal = 0; yes = b }
told_yes (refused n k) = record { refusal = n; yes = false }
