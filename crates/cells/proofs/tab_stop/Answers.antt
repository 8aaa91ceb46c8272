use native.Mathlib.Nat.{mod-le}
use Rattle.cells.proofs.Stops.{stop_zero, stop_tab}
use Rattle.cells.proofs.tab_stop.Goals as goal

pub returns-then-tab-eq0 : goal.returns-then-tab-eq0
returns-then-tab-eq0 c = rw c.if-tab-eq0.true (stop_zero c.args.cell)

pub overflow_sub-result : goal.overflow_sub-result
overflow_sub-result c = mod-le c.args.cell c.args.tab

pub returns : goal.returns
returns c = stop_tab c.args.tab c.args.cell c.if-tab-eq0.false
