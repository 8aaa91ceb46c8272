use Rattle.plan.proofs.Judged.{judged-7, judged-8, judged-9, judged-fine}
use Rattle.plan.proofs.judge.Goals as goal

pub returns-then-not-within : goal.returns-then-not-within
returns-then-not-within c = let a = c.args in λ d e. judged-7 a.room a.plan d e a.within c.if-not-within.true-raw

pub returns-then-room-plan : goal.returns-then-room-plan
returns-then-room-plan c = let a = c.args in λ d e. judged-8 a.room a.plan d e a.within c.if-not-within.false-raw c.if-room-plan.true

pub returns-then-room-plan-2 : goal.returns-then-room-plan-2
returns-then-room-plan-2 c = let a = c.args in λ d e. judged-9 a.room a.plan d e a.within c.if-not-within.false-raw c.if-room-plan.false c.if-room-plan-2.true

pub returns : goal.returns
returns c = let a = c.args in λ d e. judged-fine a.room a.plan d e a.within c.if-not-within.false-raw c.if-room-plan.false c.if-room-plan-2.false
