use Rattle.select.specs.Selections.{line_span}
use Rattle.select.proofs.Spans.{outside_told}
use Rattle.select.proofs.shapes.line_span.Goals as goal

pub returns-then-lt : goal.returns-then-lt
unfolding line_span
returns-then-lt c = let a = c.args in rw (outside_told a.top.0 a.bottom.0 a.row.0 _ _ _ c.lt.ensures c.lt-2.ensures c.if-lt.true)

pub returns-else-lt : goal.returns-else-lt
unfolding line_span
returns-else-lt c = let a = c.args in rw (outside_told a.top.0 a.bottom.0 a.row.0 _ _ _ c.lt.ensures c.lt-2.ensures c.if-lt.false)
