use mathlib.Core.Path.{◌∙◌, sym, ap}
use Rattle.cells.specs.Wide.{ascends}
use Rattle.cells.proofs.Tables.{table_ascends}
use Rattle.cells.proofs.Stops.{narrow, wide-count, narrow_count, after-tab, after-wide, after-narrow, near_kept, near_counted}
use native.Mathlib.Omega.{arith}
use Rattle.cells.proofs.cell_after.Goals as goal

pub returns-then-value-eq-TAB : goal.returns-then-value-eq-TAB
returns-then-value-eq-TAB c = let a = c.args in
    let e = c.if-value-eq-TAB.true in (c.tab_stop.ensures ∙ sym (after-tab a.tab a.cell a.value e), near_kept a.near a.value (omega arith))

pub returns-then-value-lt-FIRST_WIDE : goal.returns-then-value-lt-FIRST_WIDE
returns-then-value-lt-FIRST_WIDE c = let a = c.args in
    (sym (after-narrow a.tab a.cell a.value c.if-value-eq-TAB.false (narrow a.value c.if-value-lt-FIRST_WIDE.true)), near_kept a.near a.value c.if-value-lt-FIRST_WIDE.true)

pub count_near-count-requires : goal.count_near-count-requires
count_near-count-requires c = ap ascends c.requires.0 ∙ table_ascends

pub returns-then-count-eq1 : goal.returns-then-count-eq1
returns-then-count-eq1 c = let a = c.args in
    let p = c.requires.0 in let e = c.count_near-count.ensures in
    (sym (after-wide a.tab a.cell a.value c.if-value-eq-TAB.false (wide-count a.table.now a.value _ p e c.if-count-eq1.true)), near_counted a.near a.value a.table.now _ p e c.if-value-lt-FIRST_WIDE.false)

pub returns-else-count-eq1 : goal.returns-else-count-eq1
returns-else-count-eq1 c = let a = c.args in
    let p = c.requires.0 in let e = c.count_near-count.ensures in
    (sym (after-narrow a.tab a.cell a.value c.if-value-eq-TAB.false (narrow_count a.table.now a.value _ p e c.if-count-eq1.false)), near_counted a.near a.value a.table.now _ p e c.if-value-lt-FIRST_WIDE.false)
