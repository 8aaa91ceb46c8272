use Rattle.plain.proofs.answers.told_span.Goals as goal

pub returns-in-Outside : goal.returns-in-Outside
returns-in-Outside c = rw c.in-Outside.is c.no_cover.ensures

pub returns-in-Closed : goal.returns-in-Closed
returns-in-Closed c = rw c.in-Closed.is

pub returns-in-Open : goal.returns-in-Open
returns-in-Open c = rw c.in-Open.is
