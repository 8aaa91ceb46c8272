-- Answered here, and not by the attribute, so that a wrong program is refused by a law and not at a limit.
use Rattle.text.proofs.Order.{row_min, row_max, col_min, col_max}
use Rattle.std.proofs.Common.{arith}
use Rattle.std.proofs.lemmas.Bool.Decides.{nat_tests}
use Rattle.after.proofs.Rectangles.{block_right}
use Rattle.after_boxes.proofs.after_delete_block.Goals as goal

pub returns-then-lt-4 : goal.returns-then-lt-4
returns-then-lt-4 c =
    let a = c.args in
    block_right a.pos a.start a.end c.min-top.result.0 c.max-bottom.result.0 c.min-left.result.0 c.max-right.result.0 (row_min a.start.row a.end.row c.min-top.ensures) (row_max a.start.row a.end.row c.max-bottom.ensures) (col_min a.start.col a.end.col c.min-left.ensures) (col_max a.start.col a.end.col c.max-right.ensures)
    (grind (arith, nat_tests)) (grind (arith, nat_tests))
