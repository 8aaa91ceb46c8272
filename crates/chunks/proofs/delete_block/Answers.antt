use Rattle.text.proofs.Order.{row_min, col_min}
use Rattle.chunks.proofs.Deleted.{block_found}
use Rattle.edit.specs.Call.{lent, finished}
use Rattle.edit.specs.Edits.{Edited}
use lib.ListN.{take}
use Prim.Native.Nat.{ℕ}
use mathlib.Core.Bool.{true}
use mathlib.Core.Path.{◌∙◌, ap}
use Rattle.chunks.proofs.delete_block.Goals as goal

pub returns : goal.returns
returns c = let a = c.args in λ x f s os e. c.delete_chunks.ensures x f s os e ∙ ap (λ (d : Edited ℕ). finished true a.view (lent a.text.now x f s a.out.now a.lens.now os) d) (block_found (take a.view.used a.text.now) a.start a.end _ _ _ _ c.extent-height.ensures c.extent-breadth.ensures (row_min a.start.row a.end.row c.min.ensures) (col_min a.start.col a.end.col c.min-2.ensures) c.requires.6)
