-- The theorems that specs/Theorems.antt states.
use mathlib.Core.Path.{◌≡◌, refl, ap}
use Rattle.promise.specs.Paper.{Paper, done, refused}
use Rattle.promise.proofs.Settled.{settled}
use Rattle.edit.specs.declared.Refusal.{Refusal}
use Rattle.edit.specs.Call.{paper}
use Rattle.edit.proofs.Theorems.{refusal_back, refusal_back_lem}
use Rattle.given.specs.Theorems.{Settled}
use Rattle.std.specs.Prelude.{Result, Ok, Err}

verdict_back : Paper (Unit {0}) → Result (Unit {0}) Refusal
verdict_back (done u) = Ok tt
verdict_back (refused n k) = Err (refusal_back n k)

verdict_back_lem : (x : Result (Unit {0}) Refusal) → verdict_back (paper x) ≡ x
unfolding verdict_back
verdict_back_lem (Ok tt) = refl
verdict_back_lem (Err r) = ap (λ (r : Refusal). Err r) (refusal_back_lem r)

pub promises_settle : Settled
promises_settle = record { judge = settled verdict_back verdict_back_lem }
