use mathlib.Core.Path.{◌∙◌}
use native.Mathlib.Omega.{arith}
use Rattle.text.proofs.Laws.{start-le, row_at, len_le}
use Rattle.text.specs.Text.{is_lf}
use Rattle.rows.proofs.line_char_count.Goals as goal

pub run_len-requires : goal.run_len-requires
run_len-requires c = let a = c.args in rw c.line_to_char-start.ensures (start-le is_lf a.text.now a.row.0)

pub overflow_cast-result : goal.overflow_cast-result
overflow_cast-result c = let a = c.args in let e = c.run_len.ensures in let q = rw (c.line_to_char-start.ensures, row_at is_lf a.text.now a.row.0) at e in omega (arith, len_le is_lf a.text.now a.row.0)

pub returns : goal.returns
returns c = let a = c.args in c.run_len.ensures ∙ rw c.line_to_char-start.ensures (row_at is_lf a.text.now a.row.0)
