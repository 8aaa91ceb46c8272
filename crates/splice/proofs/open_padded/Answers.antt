use Rattle.splice.proofs.Gaps.{gap-padded}
use Rattle.splice.proofs.open_padded.Goals as goal

pub returns : goal.returns
returns c = let a = c.args in
    gap-padded a.text.now _ _ _ a.used a.at.0 a.pad a.payload.now c.requires.0 c.requires.1 c.shift_up.ensures c.fill.ensures c.copy_in.ensures
