-- The theorems that specs/Theorems.antt states.
use mathlib.Core.Path.{◌≡◌, refl, ap}
use Prim.Native.Nat.{ℕ}
use Rattle.promise.specs.Paper.{Paper, done, refused}
use Rattle.promise.proofs.Settled.{settled}
use Rattle.script.specs.Calls.{paper_ran}
use Rattle.script.specs.Theorems.{RunSettled}
use Rattle.std.specs.Prelude.{Result, Ok, Err}
use Rattle.utf8.specs.declared.NoRoom.{NoRoom}

ran_back : Paper ℕ → Result ℕ NoRoom
ran_back (done n) = Ok n
ran_back (refused n k) = Err (record {})

ran-back : (x : Result ℕ NoRoom) → ran_back (paper_ran x) ≡ x
unfolding ran_back
ran-back (Ok n) = refl
ran-back (Err e) = refl

pub run_settled : RunSettled
run_settled = settled (λ o. (ran_back o.answer, o.out)) (λ x. ap (λ (r : Result ℕ NoRoom). (r, x.1)) (ran-back x.0))
