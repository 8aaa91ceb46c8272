use mathlib.Core.Bool.{◌&&◌}
use mathlib.Core.Path.{◌≡◌}
use lib.ListN.{drop}
use Rattle.text.proofs.Ended.{not_lf}
use Rattle.text.specs.Text.{all}
use Rattle.bad_payload.proofs.no_lf.Given as goal

abbrev pub invariant-loop-x : goal.invariant-loop-x
invariant-loop-x l = (l.plain && all not_lf (drop l.x-index l.payload)) ≡ all not_lf l.payload
