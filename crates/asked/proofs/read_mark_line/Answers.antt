use Rattle.asked.proofs.read_mark_line.Goals as goal

pub returns-in-Malformed : goal.returns-in-Malformed
returns-in-Malformed c = rw (← c.line_head-head.ensures, c.in-Malformed.is)

pub returns-in-Text : goal.returns-in-Text
returns-in-Text c = rw (← c.line_head-head.ensures, c.in-Text.is)

pub returns-in-Mark : goal.returns-in-Mark
returns-in-Mark c = rw (← c.line_head-head.ensures, c.in-Mark.is)

pub returns-in-Edit : goal.returns-in-Edit
returns-in-Edit c = rw (← c.line_head-head.ensures, c.in-Edit.is)
