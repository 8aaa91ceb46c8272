use Prim.Native.Nat.{◌-◌, min}
use Rattle.text.proofs.Order.{row_min}
use Rattle.text.specs.Rows.{last_row}
use Rattle.text.specs.Text.{is_lf}
use Rattle.too_many.proofs.Limits.{few-joins}
use Rattle.too_many.proofs.joins_few.Goals as goal

pub returns : goal.returns
returns c = let a = c.args in let m = last_row is_lf a.text.now in rw (row_min a.row c.last_row-last.result c.min-first.ensures, c.last_row-last.ensures) (few-joins a.count (m - min a.row.0 m))
