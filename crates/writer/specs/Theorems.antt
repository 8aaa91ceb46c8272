-- What is proved beside that the code meets its promises. The proofs stand in proofs/Theorems.antt.
use Rattle.std.specs.Prelude.{List, ℕ}
use Rattle.promise.specs.Settled.{Settles}
use Rattle.utf8.specs.Calls.{outcome}
use Rattle.std.specs.Prelude.{Result, Ok, Err}
use Rattle.edit.specs.declared.Refusal.{Refusal}
use Rattle.edit.specs.Call.{paper}

-- Each public promise settles the answer and the lent slice.
abbrev pub WritersSettled : Type 0
WritersSettled = Settles {A = Result ℕ Refusal × List ℕ} (λ o. outcome (paper o.0) o.1)
