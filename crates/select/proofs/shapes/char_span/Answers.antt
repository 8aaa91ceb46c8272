use mathlib.Core.Path.{sym, ◌∙◌}
use Rattle.select.specs.Selections.{char_span}
use Rattle.select.proofs.Spans.{outside_told}
use Rattle.select.proofs.shapes.char_span.Goals as goal

pub returns-then-lt : goal.returns-then-lt
unfolding char_span
returns-then-lt c = let a = c.args in rw (outside_told a.start.row.0 a.end.row.0 a.row.0 _ _ _ c.lt.ensures c.lt-2.ensures c.if-lt.true)

pub returns-then-eq : goal.returns-then-eq
unfolding char_span
returns-then-eq c = let a = c.args in rw (outside_told a.start.row.0 a.end.row.0 a.row.0 _ _ _ c.lt.ensures c.lt-2.ensures c.if-lt.false, c.first_col-lo.ensures, sym c.eq.ensures ∙ c.if-eq.true)

pub returns-else-eq : goal.returns-else-eq
unfolding char_span
returns-else-eq c = let a = c.args in rw (outside_told a.start.row.0 a.end.row.0 a.row.0 _ _ _ c.lt.ensures c.lt-2.ensures c.if-lt.false, c.first_col-lo.ensures, sym c.eq.ensures ∙ c.if-eq.false)
