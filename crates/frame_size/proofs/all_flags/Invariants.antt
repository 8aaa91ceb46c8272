use mathlib.Core.Path.{◌≡◌}
use mathlib.Core.Bool.{◌&&◌}
use lib.Dec.{leb}
use lib.ListN.{drop}
use Rattle.text.specs.Text.{all}
use Rattle.frame_size.proofs.all_flags.Given as goal

abbrev pub invariant-loop-x : goal.invariant-loop-x
invariant-loop-x l = (l.all && all (λ b. leb b 1) (drop l.x-index l.flags)) ≡ all (λ b. leb b 1) l.flags
