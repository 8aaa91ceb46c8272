use Rattle.edit.specs.Refusals.{few_rows}
use Rattle.too_many.proofs.rows_few.Goals as goal

pub returns-in-Char : goal.returns-in-Char
unfolding few_rows
returns-in-Char c = rw c.in-Char.is

pub returns-in-Line : goal.returns-in-Line
unfolding few_rows
returns-in-Line c = rw c.in-Line.is

pub returns-in-Block : goal.returns-in-Block
unfolding few_rows
returns-in-Block c = rw (c.in-Block.is, c.extent.ensures)
