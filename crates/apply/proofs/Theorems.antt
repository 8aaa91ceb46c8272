-- The theorems that specs/Theorems.antt states.
use mathlib.Core.Path.{◌≡◌, ap}
use Rattle.promise.proofs.Settled.{settled}
use Rattle.edit.specs.Call.{Outcome, applied}
use Rattle.edit.proofs.Theorems.{answer_back, answer_back_lem}
use Rattle.apply.specs.Theorems.{Exit, outcome_of, ExitSettled, ApplyEditSettled}
use Rattle.std.specs.Prelude.{Result, Ok, Err}
use Rattle.edit.specs.declared.Refusal.{Refusal}
use Rattle.edit.specs.declared.Applied.{Applied}

pub exit_back : Outcome → Exit
exit_back o = record { answer = answer_back o.answer; text = o.text; payload = o.payload; first = o.first; second = o.second }

pub exit_back_lem : (x : Exit) → exit_back (outcome_of x) ≡ x
unfolding exit_back
exit_back_lem x = ap (λ (a : Result Applied Refusal). record { answer = a; text = x.text; payload = x.payload; first = x.first; second = x.second }) (answer_back_lem x.answer)

pub exit_settled : ExitSettled
exit_settled = settled exit_back exit_back_lem

pub apply_edit_settled : ApplyEditSettled
apply_edit_settled v e l = exit_settled (applied v e l)
