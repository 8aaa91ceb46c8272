use Rattle.loading.proofs.Loading.{load_bad, load_long, load_whole}
use Rattle.loading.proofs.loads.load.Goals as goal

pub returns-then-not-all_admissible : goal.returns-then-not-all_admissible
returns-then-not-all_admissible c = λ ms. load_bad c.args.script _ _ ms _ _ c.all_admissible.ensures _ _ c.if-not-all_admissible.true-raw c.refuse.ensures

pub returns-then-text-chars : goal.returns-then-text-chars
returns-then-text-chars c = λ ms. load_long c.args.script _ _ ms _ _ c.all_admissible.ensures c.if-not-all_admissible.false-raw _ _ c.if-text-chars.true c.refuse-then-text-chars.ensures

pub returns : goal.returns
returns c = λ ms. load_whole c.args.script _ _ ms _ _ c.all_admissible.ensures c.if-not-all_admissible.false-raw _ _ c.if-text-chars.false c.copy_in.ensures c.renew.ensures
