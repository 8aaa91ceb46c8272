-- What is proved beside that the code meets its promises. The proofs stand in proofs/Theorems.antt.
use Rattle.std.specs.Prelude.{List, ℕ}
use Rattle.promise.specs.Settled.{Settles}
use Rattle.utf8.specs.Calls.{outcome}
use Rattle.script.specs.Calls.{paper_ran}
use Rattle.std.specs.Prelude.{Result}
use Rattle.utf8.specs.declared.NoRoom.{NoRoom}

-- The promise settles the answer and the lent slice.
abbrev pub RunSettled : Type 0
RunSettled = Settles {A = Result ℕ NoRoom × List ℕ} (λ o. outcome (paper_ran o.0) o.1)
