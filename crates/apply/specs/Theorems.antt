-- What is proved of the promise beside that the code meets it. Demand 3 has a file of its own.
use Rattle.std.specs.Prelude.{◌≡◌, List, ℕ}
use Rattle.promise.specs.Settled.{Settles}
use Rattle.edit.specs.declared.View.{View}
use Rattle.edit.specs.declared.Edit.{Edit}
use Rattle.edit.specs.Call.{paper, Lent, Outcome, outcome, Promised}
use Rattle.std.specs.Prelude.{Result, Ok, Err}
use Rattle.edit.specs.declared.Refusal.{Refusal}
use Rattle.edit.specs.declared.Applied.{Applied}

-- what is there when `apply_edit` returns: its answer, and each slice that it may write
pub record Exit : Type 0 where
  pub answer : Result Applied Refusal
  pub text : List ℕ
  pub payload : List ℕ
  pub first : List ℕ
  pub second : List ℕ

abbrev pub outcome_of : Exit → Outcome
outcome_of x = outcome (paper x.answer) x.text x.payload x.first x.second

-- All of it is settled by its outcome.
abbrev pub ExitSettled : Type 0
ExitSettled = Settles outcome_of

-- what `apply_edit` promises holds of it
abbrev pub Meets : Exit → View → Edit → Lent → Type 0
Meets x v e l = Promised x.answer x.text x.payload x.first x.second v e l

-- So that promise settles it: two exits that meet it for the same call are the same.
abbrev pub ApplyEditSettled : Type 0
ApplyEditSettled = (v : View) (e : Edit) (l : Lent) (x y : Exit) → Meets x v e l → Meets y v e l → x ≡ y
