use Rattle.splitting.proofs.SplitCols.{lowered, lowered_none}
use Rattle.splitting.proofs.lower.Goals as goal

pub returns-then-n-gt1 : goal.returns-then-n-gt1
returns-then-n-gt1 c =
    let a = c.args in
    let P = lowered a.steps.now a.n a.by c.saturating_sub.result c.if-n-gt1.true c.requires c.saturating_sub.ensures in
    record { come = P.0; by_index = P.1 }

pub returns-else-n-gt1 : goal.returns-else-n-gt1
returns-else-n-gt1 c =
    let a = c.args in
    let P = lowered_none a.steps.now a.n a.by c.if-n-gt1.false in
    record { come = P.0; by_index = P.1 }
