use mathlib.Core.Bool.{◌&&◌}
use mathlib.Core.Path.{◌≡◌}
use lib.ListN.{drop}
use Rattle.text.specs.Text.{all}
use Rattle.edit.specs.Refusals.{small}
use Rattle.too_big.proofs.all_small.Given as goal

abbrev pub invariant-loop-x : goal.invariant-loop-x
invariant-loop-x l = (l.all && all small (drop l.x-index l.list)) ≡ all small l.list
