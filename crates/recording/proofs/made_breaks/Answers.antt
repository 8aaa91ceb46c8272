use Rattle.recording.proofs.Totals.{made_some, made_none}
use Rattle.recording.proofs.made_breaks.Goals as goal

pub returns-then-made-eq-LF : goal.returns-then-made-eq-LF
returns-then-made-eq-LF c = made_some c.args.made c.args.pad c.if-made-eq-LF.true

pub returns : goal.returns
returns c = made_none c.args.made c.args.pad c.if-made-eq-LF.false
