use mathlib.Core.Path.{◌≡◌}
use Prim.Native.Nat.{◌+◌, ◌-◌, ◌*◌}
use lib.ListN.{drop}
use Rattle.steps.specs.Numbers.{laid_by}
use Rattle.recording.proofs.Walks.{columns_by}
use Rattle.recording.proofs.Slots.{Listing}
use Rattle.recording.proofs.record_places.Given as goal

abbrev pub invariant-loop-i : goal.invariant-loop-i
invariant-loop-i l = Listing (columns_by l.start 0 l.n l.steps) (columns_by l.start l.at (l.n - l.i) (drop (5 * l.i) l.steps)) l.initial.out l.out l.n l.i × (l.at + laid_by (l.n - l.i) (drop (5 * l.i) l.steps) ≡ laid_by l.n l.steps)
