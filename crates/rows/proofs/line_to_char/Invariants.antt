use mathlib.Core.Path.{◌≡◌}
use Prim.Native.Nat.{◌+◌, ◌*◌}
use lib.ListN.{drop}
use Rattle.text.specs.Rows.{row_start}
use Rattle.text.specs.Text.{is_lf}
use Rattle.rows.proofs.line_to_char.Given as goal

abbrev pub invariant-loop-block : goal.invariant-loop-block
invariant-loop-block l = (l.at ≡ l.block-index * 64) × (l.at + row_start is_lf (drop l.at l.text) l.above ≡ row_start is_lf l.text l.initial.above)
