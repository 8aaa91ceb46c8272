-- What a writer answers, and leaves in the slice lent for its line.
use Rattle.std.specs.Prelude.{List, ℕ}
use Rattle.promise.specs.Paper.{Paper, done, refused}
use Rattle.utf8.specs.Calls.{Outcome, outcome, stored}
use Rattle.edit.specs.Call.{number_of, offset_of}
use Rattle.frame.specs.Format.{Frame}
use Rattle.frame.specs.Writes.{line_of}
use Rattle.std.specs.Prelude.{Result, Ok, Err}
use Rattle.edit.specs.declared.Refusal.{Refusal}

-- the line to the front of the slice, or 8: "encoded output too long for its slice"
unfoldable pub line_into : Paper (List ℕ) → List ℕ → Outcome
line_into (done l) out = stored l out
line_into (refused n k) out = outcome (refused n k) out

abbrev pub written_into : Frame → List ℕ → Outcome
written_into f out = line_into (line_of f) out
