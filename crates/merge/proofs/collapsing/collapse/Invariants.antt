use Prim.Native.Nat.{◌<◌}
use Rattle.merge.proofs.Turns.{Turning}
use Rattle.merge.proofs.collapsing.collapse.Given as goal

abbrev pub invariant-loop-i : goal.invariant-loop-i
invariant-loop-i l = (l.count < l.i) × Turning l.sorted l.initial.out l.out l.last l.count l.i
