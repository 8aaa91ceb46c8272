use mathlib.Core.Path.{◌≡◌}
use Prim.Native.Nat.{◌+◌}
use lib.ListN.{drop}
use Rattle.text.specs.Rows.{row_start}
use Rattle.text.specs.Text.{is_lf}
use Rattle.rows.proofs.scan_to_row.Given as goal

abbrev pub invariant-loop-i : goal.invariant-loop-i
invariant-loop-i l = l.i + row_start is_lf (drop l.i l.text) l.above ≡ row_start is_lf l.text l.initial.above
