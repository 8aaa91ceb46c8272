use Rattle.sequences.proofs.Steps.{three_cut, three_tested}
use Rattle.decoding.proofs.starts_three.Goals as goal

pub returns-in-len3-up : goal.returns-in-len3-up
returns-in-len3-up c = let a = c.args in three_tested a.bytes.now a.start _ c.in-len3-up.len_at_least c.is_three.ensures

pub returns-in_default : goal.returns-in_default
returns-in_default c = let a = c.args in three_cut a.bytes.now a.start c.in_default.len_below
