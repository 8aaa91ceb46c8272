use mathlib.Core.Path.{◌≡◌}
use Rattle.edit.specs.Call.{paper, verdict_of, given_tests, Lent, lent}
use Rattle.std.proofs.lemmas.Result.{err_from_is_err_and}
use Rattle.apply.proofs.Dispatch.{refuses, passes}
use Rattle.apply.proofs.apply_edit.Goals.{After-judge}
use Rattle.apply.proofs.apply_edit.Goals as goal

-- what is lent, and the verdict on it
abbrev lends : After-judge → Lent
lends c = let a = c.args in lent a.text.now a.payload.now a.first.now a.second.now a.outpayload.now a.outfirst.now a.outsecond.now

verdict : (c : After-judge) → paper c.judge.result ≡ verdict_of (given_tests c.args.view c.args.edit (lends c))
verdict c = let a = c.args in c.judge.ensures a.outpayload.now a.outfirst.now a.outsecond.now

pub returns-in_err-judge : goal.returns-in_err-judge
returns-in_err-judge c = let a = c.args in let p = err_from_is_err_and c.from_residual.result c.from_residual.ensures.1 in rw (p.1, p.2) (refuses a.view a.edit (lends (goal.at.returns-in_err-judge c).After-judge) _ (verdict (goal.at.returns-in_err-judge c).After-judge) _ c.in_err-judge.was)

pub apply_judged-requires : goal.apply_judged-requires
apply_judged-requires c = let a = c.args in passes a.view a.edit (lends (goal.at.apply_judged-requires c).After-judge) _ (verdict (goal.at.apply_judged-requires c).After-judge) c.in_ok-judge.was
