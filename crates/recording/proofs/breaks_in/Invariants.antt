use mathlib.Core.Path.{◌≡◌}
use Prim.Native.Nat.{◌≤◌, ◌+◌}
use lib.ListN.{drop}
use Rattle.text.specs.Rows.{last_row}
use Rattle.text.specs.Text.{is_lf}
use Rattle.recording.proofs.breaks_in.Given as goal

abbrev pub invariant-loop-x : goal.invariant-loop-x
invariant-loop-x l = (l.count ≤ l.x-index) × (l.count + last_row is_lf (drop l.x-index l.part) ≡ last_row is_lf l.part)
