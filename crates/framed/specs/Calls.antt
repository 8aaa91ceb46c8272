-- What the edit that a line is answers and leaves.
use Rattle.std.specs.Prelude.{true, List, [], ℕ}
use Rattle.promise.specs.Paper.{Paper, done, refused}
use Rattle.edit.specs.declared.View.{View}
use Rattle.edit.specs.Call.{Outcome, outcome, lent, applied}
use Rattle.frame.specs.Format.{Frame}
use Rattle.frame.specs.Format as format
use Rattle.frame.specs.Reads.{read_form}
use Rattle.place.specs.declared.Place.{Place}
use Rattle.place.specs.Places.{judged}

-- "A line is judged for form (10), then UTF-8 (5, offset not printed), then as its call, in table order", and "nothing lent changes": what
-- is read, applied to the text of a buffer, with slices for the inverse
unfoldable pub frame_applied : Paper Frame → View → List ℕ → List ℕ → List ℕ → List ℕ → Outcome
frame_applied (done (format.edit w)) v b ox of os = applied v w.edit (lent b w.payload w.first w.second ox of os)
frame_applied (done (format.text cs)) v b ox of os = outcome (refused 10 0) b ox of os
frame_applied (done (format.mark m)) v b ox of os = outcome (refused 10 0) b ox of os
frame_applied (refused n k) v b ox of os = outcome (refused n k) b ox of os

-- where only edits are in their place
abbrev pub among_edits : Place
among_edits = record { sound = true; marks = 0; edited = true }

-- the line as it would be judged among the edits of a script: a text or a mark is malformed there
abbrev pub line_applied : View → List ℕ → List ℕ → List ℕ → List ℕ → List ℕ → Outcome
line_applied v l b ox of os = frame_applied (read_form (judged among_edits [] l)) v b ox of os
