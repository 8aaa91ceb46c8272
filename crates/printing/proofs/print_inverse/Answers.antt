use Rattle.edit.specs.Edits.{whole}
use Rattle.frame.specs.Format.{edit as edit_frame}
use Rattle.printing.proofs.WrittenLines.{digits_few}
use Rattle.printing.proofs.InverseLine.{line-printed, line_ok}
use borrow.Author.Rules.{rules}
use Rattle.printing.proofs.print_inverse.Goals as goal

pub unwrap-count-requires : goal.unwrap-count-requires
unwrap-count-requires c = let a = c.args in line_ok (edit_frame (whole a.inverse a.payload.now a.first.now a.second.now)) a.out.now _ _ c.requires.0 c.requires.1 c.print_byte.ensures c.write_edit.result c.write_edit.ensures

pub overflow_add-count : goal.overflow_add-count
overflow_add-count c = let k = digits_few _ _ _ c.write_edit.result _ c.write_edit.ensures c.unwrap-count.ensures in search rules

pub end_line-requires : goal.end_line-requires
end_line-requires c = let k = digits_few _ _ _ c.write_edit.result _ c.write_edit.ensures c.unwrap-count.ensures in search rules

pub returns : goal.returns
returns c = let a = c.args in line-printed (edit_frame (whole a.inverse a.payload.now a.first.now a.second.now)) a.out.now _ _ c.requires.0 c.requires.1 c.print_byte.ensures c.unwrap-count.result (rw c.unwrap-count.ensures at c.write_edit.ensures) _ _ c.end_line.ensures.0 c.end_line.ensures.1
