use Rattle.shift.specs.Kinds.{after_delete}
use Rattle.shift.proofs.Handed.{chars_handed, rows-handed}
use Rattle.shift.proofs.follow.after_delete.Goals as goal

pub after_delete_char-requires : goal.after_delete_char-requires
after_delete_char-requires c = let a = c.args in chars_handed a.pos a.start a.end a.kind c.requires.0 c.requires.1 c.requires.2 c.in-Char.is

pub after_delete_lines-requires : goal.after_delete_lines-requires
after_delete_lines-requires c = let a = c.args in rows-handed a.pos a.start a.end a.kind c.requires.0 c.requires.1 c.requires.2 c.in-Line.is

pub returns-in-Char : goal.returns-in-Char
unfolding after_delete
returns-in-Char c = rw c.in-Char.is c.after_delete_char.ensures

pub returns-in-Line : goal.returns-in-Line
unfolding after_delete
returns-in-Line c = rw c.in-Line.is c.after_delete_lines.ensures

pub returns-in-Block : goal.returns-in-Block
unfolding after_delete
returns-in-Block c = rw c.in-Block.is c.after_delete_block.ensures
