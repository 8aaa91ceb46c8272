-- What is proved beside that the code meets its promises. The proofs stand in proofs/Theorems.antt.
use Rattle.promise.specs.Settled.{Settles}
use Rattle.edit.specs.Call.{paper}

-- The public promise settles its answer.
pub record Settled : Type 0 where
  pub judge : Settles (paper {A = Unit {0}})
