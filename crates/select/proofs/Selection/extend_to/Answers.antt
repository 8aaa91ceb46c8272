use Rattle.select.proofs.Selection.extend_to.Goals as goal

pub returns-in-Char : goal.returns-in-Char
returns-in-Char c = rw c.in-Char.is

pub returns-in-Line : goal.returns-in-Line
returns-in-Line c = rw c.in-Line.is

pub returns-in-Block : goal.returns-in-Block
returns-in-Block c = rw c.in-Block.is
