use Rattle.frame.specs.declared.Head.TheVariants as as_head
use Rattle.place.proofs.ByHeads.{seen-told}
use Rattle.place.proofs.Place.seen.Goals as goal

pub returns-in-Malformed : goal.returns-in-Malformed
returns-in-Malformed c = seen-told c.args.self c.args.head as_head.Malformed c.in-Malformed.is

pub returns-in-Text : goal.returns-in-Text
returns-in-Text c = seen-told c.args.self c.args.head as_head.Text c.in-Text.is

pub returns-in-Mark : goal.returns-in-Mark
returns-in-Mark c = seen-told c.args.self c.args.head (as_head.Mark c.in-Mark.field-0) c.in-Mark.is

pub returns-in-Edit : goal.returns-in-Edit
returns-in-Edit c = seen-told c.args.self c.args.head (as_head.Edit c.in-Edit.field-0) c.in-Edit.is
