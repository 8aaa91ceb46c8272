-- The theorems that specs/Theorems.antt states.
use mathlib.Core.Path.{◌≡◌, refl, ap}
use Prim.Native.Nat.{ℕ}
use Rattle.promise.specs.Paper.{Paper, done, refused}
use Rattle.promise.proofs.Settled.{settled}
use Rattle.edit.specs.declared.Refusal.{Refusal}
use Rattle.edit.proofs.Theorems.{refusal_back, refusal_back_lem}
use Rattle.writer.specs.Theorems.{WritersSettled}
use Rattle.std.specs.Prelude.{Result, Ok, Err}
use Rattle.edit.specs.Call.{paper}

written_back : Paper ℕ → Result ℕ Refusal
written_back (done n) = Ok n
written_back (refused n k) = Err (refusal_back n k)

written_back_lem : (x : Result ℕ Refusal) → written_back (paper x) ≡ x
unfolding written_back
written_back_lem (Ok n) = refl
written_back_lem (Err r) = ap (λ (r : Refusal). Err r) (refusal_back_lem r)

pub writers_settled : WritersSettled
writers_settled = settled (λ l. (written_back l.answer, l.out)) (λ x. ap (λ (w : Result ℕ Refusal). (w, x.1)) (written_back_lem x.0))
