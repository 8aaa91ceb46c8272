-- What is proved beside that the code meets its promises. The proofs stand in proofs/Theorems.antt.
use Rattle.std.specs.Prelude.{List, ℕ, Option}
use Rattle.select.specs.declared.Sel.{Sel}
use Rattle.promise.specs.Settled.{Settles}
use Rattle.loading.specs.declared.Progress.{Progress}
use Rattle.step.specs.Calls.{left}

-- what is there when `step` returns
pub record Exit : Type 0 where
  pub progress : Progress
  pub text : List ℕ
  pub marks : List (Option Sel)
  pub out : List ℕ

-- The promise of `step` settles all of it.
abbrev pub StepSettled : Type 0
StepSettled = Settles (λ (x : Exit). left x.progress x.text x.marks x.out)
