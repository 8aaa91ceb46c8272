use mathlib.Core.Path.{refl, sym, ◌∙◌}
use native.Mathlib.Omega.{arith}
use Rattle.frame.proofs.Strings.{cut_none, cut_torn, cut_next}
use Rattle.forms.proofs.is_cut.Goals as goal

pub loop-at-init : goal.loop-at-init
loop-at-init c = refl

pub returns-then-left-lt4 : goal.returns-then-left-lt4
returns-then-left-lt4 c = sym (cut_torn c.args.strings.now c.loop-at.at c.loop-at-test.true (omega arith)) ∙ c.loop-at.invariant

pub returns-then-rest-length : goal.returns-then-rest-length
returns-then-rest-length c = sym (cut_torn c.args.strings.now c.loop-at.at c.loop-at-test.true (omega (arith, c.number_at-length.ensures))) ∙ c.loop-at.invariant

pub loop-at-preserved : goal.loop-at-preserved
loop-at-preserved c = let e = c.number_at-length.ensures in rw e (sym (cut_next c.args.strings.now c.loop-at.at (omega arith)) ∙ c.loop-at.invariant)

pub returns : goal.returns
returns c = sym (cut_none c.args.strings.now c.loop-at.at c.loop-at-test.false) ∙ c.loop-at.invariant
