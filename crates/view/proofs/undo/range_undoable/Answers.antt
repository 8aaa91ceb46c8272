use Rattle.text.proofs.Order.{pos_min}
use Rattle.edit.specs.Call.{range_undoable}
use Rattle.view.proofs.undo.range_undoable.Goals as goal

pub returns-in-Char : goal.returns-in-Char
unfolding range_undoable
returns-in-Char c = rw (c.in-Char.is, c.contains.ensures, pos_min c.args.start c.args.end c.min.ensures)

pub returns-in-Line : goal.returns-in-Line
unfolding range_undoable
returns-in-Line c = rw c.in-Line.is

pub returns-in-Block : goal.returns-in-Block
returns-in-Block c = rw c.in-Block.is c.block_undoable.ensures
