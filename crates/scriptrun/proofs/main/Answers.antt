use Prim.Native.Nat.{ℕ}
use Rattle.std.proofs.Common.{arith}
use lib.ListN.{length-replicate}
use Rattle.step.proofs.Readies.{ready_opening, opening-state}
use Rattle.scriptrun.proofs.main.Goals as goal

pub run-requires : goal.run-requires
run-requires c = (ready_opening, opening-state, omega (arith, length-replicate {A = ℕ} 36_865 0), omega (arith, length-replicate {A = ℕ} 131_072 0))
