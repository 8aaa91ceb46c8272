use mathlib.Core.Path.{◌≡◌}
use Prim.Native.Nat.{◌≤◌, ◌*◌}
use lib.ListN.{drop}
use Rattle.encoding.proofs.Counts.{counting}
use Rattle.utf8.specs.Calls.{octet_count}
use Rattle.encoding.proofs.count_octets.Given as goal

abbrev pub invariant-loop-value : goal.invariant-loop-value
invariant-loop-value l = (l.count ≤ 4 * l.value-index) × (counting l.count (drop l.value-index l.scalars) ≡ octet_count l.scalars)
