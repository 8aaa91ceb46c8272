use Rattle.work.proofs.Working.{sums_planned}
use Rattle.steps.proofs.Planned.{planned_passed}
use Rattle.work.proofs.plan_edit.Goals as goal

pub sum_steps-sums-requires : goal.sum_steps-sums-requires
sum_steps-sums-requires c = let a = c.args in
    let R = c.resolve-found.ensures in (R.numbers, R.few, planned_passed _ _ _ a.payload.now a.first.now a.second.now a.text.now R, c.requires.0, R.come)

pub returns : goal.returns
returns c = let a = c.args in
    record { resolved = c.resolve-found.ensures; plan = sums_planned _ c.resolve-found.result _ _ _ c.sum_steps-sums.ensures }
