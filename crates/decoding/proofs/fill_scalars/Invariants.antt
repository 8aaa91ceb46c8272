use mathlib.Core.List.{◌++◌}
use mathlib.Core.Path.{◌≡◌}
use Prim.Native.Nat.{◌≤◌, ◌-◌}
use lib.ListN.{length, take, drop}
use Rattle.utf8.specs.Calls.{scalars_of}
use Rattle.utf8.specs.Reading.{scalars, read_from, reading}
use Rattle.decoding.proofs.fill_scalars.Given as goal

abbrev pub invariant-loop-at : goal.invariant-loop-at
invariant-loop-at l = (l.at.0 ≤ length l.bytes) × (length l.out ≡ length l.initial.out) × (l.count ≤ length (scalars_of (reading l.bytes))) × (read_from l.at.0 0 (drop l.at.0 l.bytes) ≡ scalars (drop l.count (scalars_of (reading l.bytes)))) × (l.out ≡ take l.count (scalars_of (reading l.bytes)) ++ drop l.count l.initial.out)

abbrev pub decreases-loop-at : goal.decreases-loop-at
decreases-loop-at l = length l.bytes - l.at.0
