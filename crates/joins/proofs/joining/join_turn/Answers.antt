use Rattle.joins.proofs.JoinRows.{turn_spaced, turn_bare}
use Rattle.joins.proofs.joining.join_turn.Goals as goal

pub returns-then-spaced-left : goal.returns-then-spaced-left
returns-then-spaced-left c = let a = c.args in turn_spaced a.text.now a.at.0 a.left _ a.spaced c.line_char_count-len.ensures c.if-spaced-left.true

pub returns : goal.returns
returns c = let a = c.args in turn_bare a.text.now a.at.0 a.left _ a.spaced c.line_char_count-len.ensures c.if-spaced-left.false
