use native.Mathlib.Omega.{arith}
use Rattle.text.proofs.Laws.{last_le, count_last}
use Rattle.text.specs.Text.{is_lf}
use Rattle.rows.proofs.row_count.Goals as goal

pub overflow_add-result : goal.overflow_add-result
overflow_add-result c = let s = c.args.text.now in omega (arith, c.last_row.ensures, last_le is_lf s)

pub returns : goal.returns
returns c = let s = c.args.text.now in omega (arith, c.last_row.ensures, count_last is_lf s)
