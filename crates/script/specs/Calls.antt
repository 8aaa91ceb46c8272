-- What a whole run answers, and leaves in the slice lent for its output.
use Rattle.std.specs.Prelude.{List, ℕ}
use Rattle.promise.specs.Paper.{Paper, done, refused}
use Rattle.utf8.specs.Calls.{Outcome, stored}
use Rattle.feed.specs.Scripts.{output}
use Rattle.std.specs.Prelude.{Result, Ok, Err}
use Rattle.utf8.specs.declared.NoRoom.{NoRoom}

abbrev pub paper_ran : Result ℕ NoRoom → Paper ℕ
paper_ran (Ok n) = done n
paper_ran (Err e) = refused 8 0

-- all that the script prints, or 8: "encoded output too long for its slice"
abbrev pub ran_into : List ℕ → List ℕ → Outcome
ran_into input out = stored (output input) out
