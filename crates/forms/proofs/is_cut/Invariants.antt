use mathlib.Core.Path.{◌≡◌}
use Prim.Native.Nat.{◌-◌}
use lib.ListN.{length, drop}
use Rattle.frame.specs.Forms.{is_cut, strings_in}
use Rattle.forms.proofs.is_cut.Given as goal

abbrev pub invariant-loop-at : goal.invariant-loop-at
invariant-loop-at l = is_cut (strings_in (drop l.at l.strings)) ≡ is_cut (strings_in l.strings)

abbrev pub decreases-loop-at : goal.decreases-loop-at
decreases-loop-at l = length l.strings - l.at
