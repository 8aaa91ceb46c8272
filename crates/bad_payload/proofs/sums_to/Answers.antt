use mathlib.Core.Path.{sym}
use native.Mathlib.Omega.{arith}
use borrow.Author.Tests.{ne_eqb}
use Rattle.edit.proofs.Sums.{sum-at, sum-at-end}
use Rattle.edit.specs.Refusals.{sum}
use Rattle.bad_payload.proofs.Totals.{none_left}
use Rattle.bad_payload.proofs.sums_to.Goals as goal

pub returns-then-left-item : goal.returns-then-left-item
returns-then-left-item c = let a = c.args in let l = c.loop-item in sym (ne_eqb (sum a.list.now) a.total (λ e. omega (arith, sum-at a.list.now l.item-index c.loop-item-test.true)))

pub loop-item-preserved : goal.loop-item-preserved
loop-item-preserved c = let a = c.args in let l = c.loop-item in omega (arith, sum-at a.list.now l.item-index c.loop-item-test.true)

pub returns : goal.returns
returns c = let a = c.args in let l = c.loop-item in none_left (sum a.list.now) a.total l.left (omega (arith, sum-at-end a.list.now l.item-index c.loop-item-test.false))
