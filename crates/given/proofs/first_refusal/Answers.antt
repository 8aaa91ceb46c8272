use Rattle.edit.specs.Call.{first_of}
use Rattle.given.proofs.first_refusal.Goals as goal

pub returns-then-not-small : goal.returns-then-not-small
unfolding first_of
returns-then-not-small c = rw c.if-not-small.true-raw

pub returns-then-not-few : goal.returns-then-not-few
unfolding first_of
returns-then-not-few c = rw (c.if-not-small.false-raw, c.if-not-few.true-raw)

pub returns-then-not-good : goal.returns-then-not-good
unfolding first_of
returns-then-not-good c = rw (c.if-not-small.false-raw, c.if-not-few.false-raw, c.if-not-good.true-raw)

pub returns : goal.returns
unfolding first_of
returns c = rw (c.if-not-small.false-raw, c.if-not-few.false-raw, c.if-not-good.false-raw)
