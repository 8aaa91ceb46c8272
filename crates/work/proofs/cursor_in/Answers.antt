use Rattle.work.proofs.Working.{cursor_kept, cursor_clamped}
use Rattle.work.proofs.cursor_in.Goals as goal

pub returns-then-settled : goal.returns-then-settled
returns-then-settled c = let a = c.args in
    cursor_kept a.text.now a.cursor a.settled c.if-settled.true

pub returns : goal.returns
returns c = let a = c.args in
    cursor_clamped a.text.now a.cursor _ a.settled c.if-settled.false c.clamp.ensures
