use mathlib.Core.Bool.{◌&&◌}
use mathlib.Core.Path.{◌≡◌}
use lib.ListN.{drop}
use Rattle.text.specs.Text.{all_admissible}
use Rattle.text.proofs.admit.all_admissible.Given as goal

abbrev pub invariant-loop-x : goal.invariant-loop-x
invariant-loop-x l = (l.all && all_admissible (drop l.x-index l.text)) ≡ all_admissible l.text
