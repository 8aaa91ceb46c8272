use Prim.Native.Nat.{◌-◌, ◌*◌}
use lib.ListN.{drop}
use Rattle.recording.proofs.Walks.{pads_by}
use Rattle.recording.proofs.Slots.{Listing}
use Rattle.recording.proofs.record_pads.Given as goal

abbrev pub invariant-loop-i : goal.invariant-loop-i
invariant-loop-i l = Listing (pads_by l.n l.steps) (pads_by (l.n - l.i) (drop (5 * l.i) l.steps)) l.initial.out l.out l.n l.i
