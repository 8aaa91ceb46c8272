use Rattle.frame.specs.Forms.{columns_in, flags_in}
use Rattle.frame.proofs.Items.{length-columns, length-flags}
use Rattle.reader.proofs.Rooms.{lists_fit, first_lacks, second_lacks}
use Rattle.reader.proofs.lists.read_columns.Goals as goal

pub returns-then-first-count : goal.returns-then-first-count
returns-then-first-count c = let a = c.args in let s = a.bytes.now in λ x. first_lacks a.edit (columns_in s) (flags_in s) x a.first.now a.second.now _ (length-columns s) (length-flags s) c.if-first-count.true

pub returns-then-second-count : goal.returns-then-second-count
returns-then-second-count c = let a = c.args in let s = a.bytes.now in λ x. second_lacks a.edit (columns_in s) (flags_in s) x a.first.now a.second.now _ (length-columns s) (length-flags s) c.if-second-count.true

pub returns : goal.returns
unfolding columns_in
returns c = let a = c.args in let s = a.bytes.now in λ x. lists_fit a.edit (columns_in s) (flags_in s) x a.first.now a.second.now _ (length-columns s) (length-flags s) _ _ c.if-first-count.false c.if-second-count.false c.fill_numbers.ensures c.fill_flags.ensures
