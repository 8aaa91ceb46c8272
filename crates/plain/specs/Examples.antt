-- What rules out wrong records: each line is what the promise asks for at one input, and above it stands the program that tells something else.
use Rattle.std.specs.Prelude.{◌≡◌, true, false, ℕ}
use Rattle.promise.specs.Paper.{done, refused}
use Rattle.utf8.specs.declared.DecodeError.TheVariants as decode_error
use Rattle.utf8.specs.Answers.{paper_decoded}
use Rattle.text.specs.Rows.{at}
use Rattle.text.specs.Answers.{paper_clamped}
use Rattle.fit.specs.Calls.{all_fit, paper_box_fit}
use Rattle.select.specs.declared.Selection.TheVariants as as_selection
use Rattle.select.specs.Answers.{between}
use Rattle.select.specs.Sels.{sel}
use Rattle.select.specs.Selections.{bounds}
use Rattle.edit.specs.declared.MotionKind.TheVariants.{Line as Lines}
use Rattle.edit.specs.declared.Edit.TheVariants.{DeleteRange, JoinLines}
use Rattle.edit.specs.Edits.{row_at}
use Rattle.plain.specs.declared.Numbers.{Numbers}
use Rattle.plain.specs.Meanings.{meant, numbers_of}
use Rattle.plain.specs.Told.{told_count, told_done, told_clamped, told_fit, told_span, told_bounds, ends_of, told_view, told_line, no_line}
use Rattle.std.specs.Prelude.{Err, Some}
use Rattle.fit.specs.declared.BoxError.TheVariants as box_error

abbrev pub of_kind : ℕ → Numbers
of_kind k = record { kind = k; start = at 1 2; end = at 3 4; count = 5 }

pub record RuledOut : Type 0 where
  -- a Line delete meant, or told, as a Char delete
  pub lines : meant (of_kind 3) ≡ Some (DeleteRange (at 1 2) (at 3 4) Lines)
  pub lines_told : (numbers_of (DeleteRange (at 1 2) (at 3 4) Lines)).kind ≡ 3
  -- a join with spaces meant as one without, or at the row of the other end
  pub spaced : meant (of_kind 6) ≡ Some (JoinLines (row_at 1) 5 true)
  -- as much told of the payload as of the first list
  pub payload : (told_done (record { view = record { used = 0; cursor = at 0 0; changes = 0 }; inverse = JoinLines (row_at 1) 5 true; payload = 1; first = 2; second = 3 })).payload ≡ 1
  -- that all rows fit told as refusal 1, a box that is too big as fitting or as 1; what is no text told as a position that is not there
  pub fits : told_fit (done all_fit) ≡ record { refusal = 0; found = false; at = at 0 0 }
  pub too_big : told_fit (paper_box_fit (Err box_error.TooBig)) ≡ record { refusal = 2; found = false; at = at 0 0 }
  pub no_text : told_clamped (paper_clamped (Err (record {}))) ≡ record { refusal = 1; found = false; at = at 0 0 }
  -- 8 told as 9
  pub no_room : told_count (paper_decoded (Err decode_error.NoRoom)) ≡ record { refusal = 8; offset = 0; count = 0 }
  -- a closed span told to end where it begins
  pub span : told_span (between 1 3) ≡ record { refusal = 0; covered = true; «open» = false; lo = 1; hi = 3 }
  -- the rows of a selection told with the last first; the column of a Line selection's head kept
  pub rows : told_bounds (bounds 2 5) ≡ record { refusal = 0; top = 2; bottom = 5 }
  pub line_ends : ends_of (as_selection.Line (row_at 3) (row_at 1)) ≡ sel (at 3 0) (at 1 0)
  -- a refused call answered with a view of nothing; the old view told where a call is answered
  pub view_kept : told_view (record { used = 1; cursor = at 0 1; changes = 2 }) (refused 1 0) ≡ record { refusal = 1; view = record { used = 1; cursor = at 0 1; changes = 2 } }
  pub view_told : (told_view (record { used = 1; cursor = at 0 1; changes = 2 }) (done (record { used = 1; cursor = at 0 0; changes = 2 }))).view ≡ record { used = 1; cursor = at 0 0; changes = 2 }
  -- a line's lists counted in each other's place; the offset of a bad sequence not told
  pub line_lists : (told_line (JoinLines (row_at 1) 5 true) 1 2 3).first ≡ 2
  pub line_offset : (no_line 5 10).offset ≡ 10
