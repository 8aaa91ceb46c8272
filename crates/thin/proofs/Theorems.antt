-- The theorem that specs/Theorems.antt states.
use mathlib.Core.Path.{◌≡◌, ap}
use Rattle.promise.proofs.Settled.{settled}
use Rattle.apply.specs.Theorems.{Exit, outcome_of}
use Rattle.apply.proofs.Theorems.{exit_back, exit_back_lem}
use Rattle.thin.specs.Stands.{Updated, updated, applied_in}
use Rattle.thin.specs.Theorems.{ExitIn, ApplyEditInSettled}

exit_in_back : Updated → ExitIn
exit_in_back u = record { exit = exit_back u.outcome; view = u.view }

updated_by : ExitIn → Updated
updated_by x = updated (outcome_of x.exit) x.view

exit_in_back_lem : (x : ExitIn) → exit_in_back (updated_by x) ≡ x
unfolding exit_in_back updated_by
exit_in_back_lem x = ap (λ (e : Exit). record { exit = e; view = x.view }) (exit_back_lem x.exit)

pub apply_edit_in_settled : ApplyEditInSettled
unfolding updated_by
apply_edit_in_settled v e l = settled exit_in_back exit_in_back_lem (applied_in v e l)
