use Rattle.edit.specs.Refusals.{small_range}
use Rattle.too_big.proofs.small_range.Goals as goal

pub returns-in-Char : goal.returns-in-Char
unfolding small_range
returns-in-Char c = rw (c.in-Char.is, c.small_position.ensures, c.small_position-in-Char.ensures)

pub returns-in-Line : goal.returns-in-Line
unfolding small_range
returns-in-Line c = rw c.in-Line.is

pub returns-in-Block : goal.returns-in-Block
unfolding small_range
returns-in-Block c = rw (c.in-Block.is, c.small_position-in-Block.ensures, c.small_position-in-Block-2.ensures)
