use Rattle.text.specs.Text.{is_lf}
use Rattle.text.proofs.Laws.{start-le}
use Rattle.text.proofs.Walks.{run-within, run-span}
use borrow.Author.Rules.{rules}
use Rattle.rows.proofs.row_from.Goals as goal

pub run_len-requires : goal.run_len-requires
run_len-requires c = rw c.requires.1 (start-le is_lf c.args.text.now c.args.row.0)

pub overflow_add-end : goal.overflow_add-end
overflow_add-end c = search (rules, run-within c.args.text.now c.args.row.0 _ _ c.requires.1 c.run_len.ensures)

pub returns : goal.returns
returns c = run-span c.args.text.now c.args.row.0 _ _ c.requires.1 c.run_len.ensures c.requires.0
