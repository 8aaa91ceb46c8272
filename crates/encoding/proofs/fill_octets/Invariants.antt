use mathlib.Core.Bool.{true}
use mathlib.Core.List.{◌++◌}
use mathlib.Core.Path.{◌≡◌}
use Prim.Native.Nat.{◌≤◌}
use lib.ListN.{length, take, drop}
use Rattle.utf8.specs.Reading.{all_scalar, writing}
use Rattle.encoding.proofs.fill_octets.Given as goal

abbrev pub invariant-loop-value : goal.invariant-loop-value
invariant-loop-value l = (l.at.0 ≤ length (writing l.scalars)) × (all_scalar (drop l.value-index l.scalars) ≡ true) × (drop l.at.0 (writing l.scalars) ≡ writing (drop l.value-index l.scalars)) × (l.out ≡ take l.at.0 (writing l.scalars) ++ drop l.at.0 l.initial.out)
