use mathlib.Core.Path.{sym, ◌∙◌}
use Rattle.sorting.specs.Flat.{flat}
use Rattle.merge.proofs.Turns.{turning_none, turning_first, turn_merge, turn_put, turning_done}
use native.Mathlib.Omega.{arith}
use Rattle.merge.proofs.collapsing.collapse.Goals.{then-overlaps, else-overlaps}
use Rattle.merge.proofs.collapsing.collapse.Goals as goal

pub returns-then-n-eq0 : goal.returns-then-n-eq0
unfolding flat
returns-then-n-eq0 c = let a = c.args in let e = turning_none a.sorted.now (rw c.if-n-eq0.true at c.requires.0) in rw (e, flat)

pub loop-i-init : goal.loop-i-init
loop-i-init c = let a = c.args in (omega arith, turning_first a.sorted.now a.out.now a.n _ c.requires.0 c.if-n-eq0.false c.sel_at-last.ensures)

pub loop-i-preserved : goal.loop-i-preserved
loop-i-preserved c = let a = c.args in let l = c.loop-i in
    elim c.if-overlaps.branch [
      | then-overlaps w ↦ (
        omega arith,
        rw (w.out-is, w.last-is, w.count-is, w.merge_two-last.ensures)
            (turn_merge a.sorted.now a.n c.requires.0 a.out.now l.out l.last c.sel_at-next.result l.count l.i l.invariant.1 c.loop-i-test.true c.sel_at-next.ensures (sym c.overlaps.ensures ∙ w.if-overlaps.true)),
      )
      | else-overlaps w ↦ (
        omega arith,
        rw (w.out-is, w.last-is, w.count-is, w.put_sel.ensures)
            (turn_put a.sorted.now a.n c.requires.0 a.out.now l.out l.last c.sel_at-next.result l.count l.i l.invariant.1 c.loop-i-test.true c.sel_at-next.ensures (sym c.overlaps.ensures ∙ w.if-overlaps.false) (omega arith)),
      )
    ]

pub returns : goal.returns
returns c = let a = c.args in let l = c.loop-i in let d = turning_done a.sorted.now a.n c.requires.0 a.out.now l.out l.last l.count l.i l.invariant.1 (omega arith) (omega arith) in rw (c.put_sel-2.ensures, d.0, d.1)
