-- What the functions leave in the script's record and in the slices lent to them.
use Rattle.std.specs.Prelude.{List, ℕ, length}
use Rattle.promise.specs.Slices.{over}
use Rattle.loading.specs.declared.Script.{Script}
use Rattle.loading.specs.declared.Progress.{Progress}
use Rattle.loading.specs.States.{script_of}
use Rattle.loading.specs.Loads.{Stepped}

-- the script and the count at return, and the slices at exit, of a function that no marks are lent to
pub record Part : Type 0 where
  pub script : Script
  pub printed : ℕ
  pub text : List ℕ
  pub out : List ℕ

abbrev pub part : Progress → List ℕ → List ℕ → Part
part r t o = record { script = r.script; printed = r.printed; text = t; out = o }

abbrev pub part_of : Stepped → List ℕ → Part
part_of x o = record { script = script_of x.state; printed = length x.printed; text = x.state.buffer; out = over x.printed o }
