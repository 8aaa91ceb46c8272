use mathlib.Core.Path.{◌≡◌}
use Prim.Native.Nat.{◌≤◌, ◌-◌}
use lib.ListN.{length, drop}
use Rattle.decoding.proofs.Counts.{counting}
use Rattle.utf8.specs.Calls.{counted}
use Rattle.utf8.specs.Reading.{read_from, reading}
use Rattle.decoding.proofs.count_scalars.Given as goal

abbrev pub invariant-loop-at : goal.invariant-loop-at
invariant-loop-at l = (l.at.0 ≤ length l.bytes) × (l.count ≤ l.at.0) × (counting l.count (read_from l.at.0 0 (drop l.at.0 l.bytes)) ≡ counted (reading l.bytes))

abbrev pub decreases-loop-at : goal.decreases-loop-at
decreases-loop-at l = length l.bytes - l.at.0
