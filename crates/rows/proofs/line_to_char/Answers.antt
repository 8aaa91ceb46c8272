use mathlib.Core.Path.{ap}
use mathlib.Core.List.{List}
use native.Mathlib.Omega.{arith}
use Prim.Native.Nat.{ℕ}
use Rattle.promise.proofs.Lists.{tail_whole}
use Rattle.text.proofs.Laws.{start-le}
use Rattle.text.proofs.Scans.{start-past-block}
use Rattle.text.specs.Rows.{row_start}
use Rattle.text.specs.Text.{is_lf}
use Rattle.rows.proofs.line_to_char.Goals as goal

pub loop-block-preserved : goal.loop-block-preserved
loop-block-preserved c = let s = c.args.text.now in let l = c.loop-block in
    let e = rw c.as_chunks.ensures.front at c.last_row-ended.ensures in
    omega (arith, start-past-block s 64 _ l.block-index l.at l.above _ l.invariant.0 (omega arith) (omega arith) e (omega arith))

pub overflow_add-result : goal.overflow_add-result
overflow_add-result c = let s = c.args.text.now in let l = c.loop-block in
    omega (arith, c.scan_to_row.ensures, start-le is_lf s c.args.row.0, ap (λ (t : List ℕ). row_start is_lf t l.above) (tail_whole s l.at))
