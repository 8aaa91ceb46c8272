use Rattle.given.proofs.Verdicts.{later-judged}
use Rattle.given.proofs.judge_admitted.Goals as goal

pub returns : goal.returns
returns c = let a = c.args in later-judged a.text.now a.edit a.payload.now a.first.now a.second.now _ _ _ _ c.numbers_small-small.ensures c.lists_few-few.ensures c.payload_good-good.ensures c.first_refusal.ensures
