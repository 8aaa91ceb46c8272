use mathlib.Core.List.{◌++◌}
use mathlib.Core.Path.{◌≡◌}
use Prim.Native.Nat.{◌*◌}
use lib.ListN.{take, drop}
use Rattle.hexline.specs.Digits.{hexed}
use Rattle.hexline.proofs.fill_digits.Given as goal

abbrev pub invariant-loop-i : goal.invariant-loop-i
invariant-loop-i l = l.out ≡ take (l.i * 2) (hexed l.bytes) ++ drop (l.i * 2) l.initial.out
