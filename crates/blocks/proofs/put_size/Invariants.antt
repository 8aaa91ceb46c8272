use mathlib.Core.Path.{◌≡◌}
use Prim.Native.Nat.{◌+◌, ◌*◌, ◌≤◌}
use lib.ListN.{length, drop}
use Rattle.text.specs.Text.{is_lf}
use Rattle.text.specs.Rows.{lines}
use Rattle.edit.proofs.Sizes.{growth}
use Rattle.blocks.specs.Blocks.{last_end}
use Rattle.blocks.proofs.Starts.{Begins}
use Rattle.blocks.proofs.put_size.Given as goal

abbrev pub invariant-loop-k : goal.invariant-loop-k
invariant-loop-k l = (l.size ≤ 16384 + l.k * 10_000_000_000) × (l.size + growth l.col.0 (drop l.k l.lens) (drop (l.row + l.k) (lines is_lf l.text)) ≡ length l.text + growth l.col.0 l.lens (drop l.row (lines is_lf l.text))) × Begins l.text l.row (length l.lens) l.k l.start × (l.end ≡ last_end l.text l.row l.k)
