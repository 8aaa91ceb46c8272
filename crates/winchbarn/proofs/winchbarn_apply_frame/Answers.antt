use Rattle.winchbarn.proofs.Tellings.{told_call_lem}
use Rattle.winchbarn.proofs.winchbarn_apply_frame.Goals as goal

pub returns : goal.returns
returns c = told_call_lem c.args.view _ _ _ _ _ _ _ c.told_answer.ensures c.apply_frame-answer.ensures
