use mathlib.Core.Path.{◌≡◌}
use Prim.Native.Nat.{◌≤◌, ◌-◌}
use lib.ListN.{length, drop}
use Rattle.fit.proofs.Boxes.{walk}
use Rattle.fit.proofs.first_over.Given as goal
use Rattle.std.specs.Prelude.{None}

abbrev pub invariant-cols : goal.invariant-cols
invariant-cols l = (l.initial.i ≤ l.i) × (l.i ≤ length l.text) × (l.col ≤ l.i) × (l.row ≤ l.i) × (l.cell ≤ l.cells) × (l.answer ≡ None) × (walk l.cells l.tab l.row l.cell l.col (drop l.i l.text) ≡ walk l.cells l.tab 0 0 0 l.text)

abbrev pub decreases-cols : goal.decreases-cols
decreases-cols l = length l.text - l.i

abbrev pub invariant-rows : goal.invariant-rows
invariant-rows l = (l.i ≤ length l.text) × (l.row ≤ l.i) × (l.answer ≡ None) × (walk l.cells l.tab l.row 0 0 (drop l.i l.text) ≡ walk l.cells l.tab 0 0 0 l.text)

abbrev pub decreases-rows : goal.decreases-rows
decreases-rows l = length l.text - l.i
