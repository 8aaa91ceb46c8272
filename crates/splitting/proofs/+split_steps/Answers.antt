use native.Mathlib.Omega.{arith}
use Rattle.splitting.proofs.SplitCols.{split-none, split-on}
use Rattle.splitting.proofs.+split_steps.Goals as goal

pub returns-then-n-eq0-clause-first : goal.returns-then-n-eq0-clause-first
returns-then-n-eq0-clause-first t c = let a = c.args in let P = split-none a.row.now a.cols.now a.flags.now a.carry a.steps.now c.if-n-eq0.true c.requires.1 in P.1.0

pub returns-then-n-eq0-clause-within : goal.returns-then-n-eq0-clause-within
returns-then-n-eq0-clause-within t c = let a = c.args in let P = split-none a.row.now a.cols.now a.flags.now a.carry a.steps.now c.if-n-eq0.true c.requires.1 in P.1.1.0

pub returns-then-n-eq0-clause-come : goal.returns-then-n-eq0-clause-come
returns-then-n-eq0-clause-come t c = let a = c.args in let P = split-none a.row.now a.cols.now a.flags.now a.carry a.steps.now c.if-n-eq0.true c.requires.1 in P.1.1.1.0

pub returns-then-n-eq0-clause-steps : goal.returns-then-n-eq0-clause-steps
returns-then-n-eq0-clause-steps t c = let a = c.args in let P = split-none a.row.now a.cols.now a.flags.now a.carry a.steps.now c.if-n-eq0.true c.requires.1 in P.1.1.1.1

pub returns-clause-first : goal.returns-clause-first
returns-clause-first t c = let a = c.args in let E = c.split_steps-rest.ensures in let L = c.lower.ensures in let P = split-on a.row.now a.cols.now a.flags.now a.carry _ c.requires.1 c.if-n-eq0.false c.one_of-skip.ensures c.first_of-flag.ensures (E.near, (E.first, (E.within, (E.come, E.steps)))) c.min-at.ensures c.split_gone-gone.ensures.value a.steps.now (omega (arith, c.requires.3, c.if-n-eq0.false)) (L.come, L.by_index) c.put_step.ensures in P.1.0

pub returns-clause-within : goal.returns-clause-within
returns-clause-within t c = let a = c.args in let E = c.split_steps-rest.ensures in let L = c.lower.ensures in let P = split-on a.row.now a.cols.now a.flags.now a.carry _ c.requires.1 c.if-n-eq0.false c.one_of-skip.ensures c.first_of-flag.ensures (E.near, (E.first, (E.within, (E.come, E.steps)))) c.min-at.ensures c.split_gone-gone.ensures.value a.steps.now (omega (arith, c.requires.3, c.if-n-eq0.false)) (L.come, L.by_index) c.put_step.ensures in P.1.1.0

pub returns-clause-come : goal.returns-clause-come
returns-clause-come t c = let a = c.args in let E = c.split_steps-rest.ensures in let L = c.lower.ensures in let P = split-on a.row.now a.cols.now a.flags.now a.carry _ c.requires.1 c.if-n-eq0.false c.one_of-skip.ensures c.first_of-flag.ensures (E.near, (E.first, (E.within, (E.come, E.steps)))) c.min-at.ensures c.split_gone-gone.ensures.value a.steps.now (omega (arith, c.requires.3, c.if-n-eq0.false)) (L.come, L.by_index) c.put_step.ensures in P.1.1.1.0

pub returns-clause-steps : goal.returns-clause-steps
returns-clause-steps t c = let a = c.args in let E = c.split_steps-rest.ensures in let L = c.lower.ensures in let P = split-on a.row.now a.cols.now a.flags.now a.carry _ c.requires.1 c.if-n-eq0.false c.one_of-skip.ensures c.first_of-flag.ensures (E.near, (E.first, (E.within, (E.come, E.steps)))) c.min-at.ensures c.split_gone-gone.ensures.value a.steps.now (omega (arith, c.requires.3, c.if-n-eq0.false)) (L.come, L.by_index) c.put_step.ensures in P.1.1.1.1
