use Rattle.joins.proofs.SplitRows.{turn_past, turn_space, turn_plain}
use mathlib.Core.Path.{refl}
use Rattle.joins.proofs.splitting.split_turn.Goals as goal

pub returns-then-end-start : goal.returns-then-end-start
returns-then-end-start c = let a = c.args in turn_past a.text.now a.start.0 a.end.0 a.col.0 a.flag c.requires.0 c.requires.1 a.end refl c.if-end-start.true

pub returns-then-flag-text : goal.returns-then-flag-text
returns-then-flag-text c = let a = c.args in turn_space a.text.now a.start.0 a.end.0 a.col.0 a.flag c.requires.0 c.requires.1 c.if-end-start.false c.if-flag-text.true

pub returns : goal.returns
returns c = let a = c.args in turn_plain a.text.now a.start.0 a.end.0 a.col.0 a.flag c.requires.0 c.requires.1 c.if-end-start.false c.if-flag-text.false
