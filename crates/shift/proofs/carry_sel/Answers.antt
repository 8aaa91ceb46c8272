use Rattle.shift.proofs.Carrying.{too_big-drops, ends_small, carried-lands}
use Rattle.shift.proofs.carry_sel.Goals as goal

pub returns-then-not-small_position : goal.returns-then-not-small_position
returns-then-not-small_position c = let a = c.args in too_big-drops a.text.now a.edit a.payload.now a.first.now a.sel _ _ c.small_position.ensures c.small_position-2.ensures c.if-not-small_position.true-raw

pub follow_sel-requires : goal.follow_sel-requires
follow_sel-requires c = let a = c.args in let p = c.requires in let b = ends_small a.text.now a.edit a.payload.now a.first.now a.sel _ _ c.small_position.ensures c.small_position-2.ensures c.if-not-small_position.false-raw in (p.0, b.0, b.1, p.1, p.2, p.3)

pub returns : goal.returns
returns c = let a = c.args in carried-lands a.text.now a.edit a.payload.now a.first.now a.sel _ _ c.small_position.ensures c.small_position-2.ensures c.if-not-small_position.false-raw _ c.follow_sel.ensures
