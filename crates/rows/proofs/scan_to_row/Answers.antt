use mathlib.Core.Path.{ap}
use Prim.Native.Nat.{◌+◌}
use native.Mathlib.Omega.{arith}
use lib.ListN.{drop}
use Rattle.text.proofs.Laws.{start_first}
use Rattle.text.proofs.Scans.{start-at-lf, start-at-other, start-at-end}
use Rattle.text.specs.Rows.{row_start}
use Rattle.text.specs.Text.{is_lf}
use Rattle.rows.proofs.scan_to_row.Goals.{then-c-eq-LF, else-c-eq-LF}
use Rattle.rows.proofs.scan_to_row.Goals as goal

pub returns-then-above-eq0 : goal.returns-then-above-eq0
returns-then-above-eq0 c = let l = c.loop-i in let t = drop l.i c.args.text.now in
    omega (arith, ap (row_start is_lf t) c.if-above-eq0.true, start_first is_lf t)

pub loop-i-preserved : goal.loop-i-preserved
loop-i-preserved c = let s = c.args.text.now in let l = c.loop-i in
    let h = c.loop-i-test.true in let z = c.if-above-eq0.false in
    elim c.if-c-eq-LF.branch [
      | then-c-eq-LF w ↦ omega (arith, start-at-lf s l.i h l.above z w.if-c-eq-LF.true, ap (row_start is_lf (drop (l.i + 1) s)) w.above-is)
      | else-c-eq-LF w ↦ omega (arith, start-at-other s l.i h l.above z w.if-c-eq-LF.false, ap (row_start is_lf (drop (l.i + 1) s)) w.above-is)
    ]

pub returns : goal.returns
returns c = let l = c.loop-i in omega (arith, start-at-end c.args.text.now l.i c.loop-i-test.false l.above)
