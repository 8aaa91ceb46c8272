use Rattle.text.proofs.Order.{row_min, col_min}
use Rattle.resolve.proofs.RowEdits.{block_lent}
use Rattle.resolve.proofs.rowwise.resolve_block.Goals as goal

pub returns : goal.returns
returns c = let a = c.args in
    λ x f s'. block_lent _ _ x f s' a.text.now a.start a.end _ _ _ _ c.extent-height.ensures c.extent-breadth.ensures (row_min a.start.row a.end.row c.min.ensures) (col_min a.start.col a.end.col c.min-2.ensures) c.requires.3 (c.resolve_chunks.ensures x)
