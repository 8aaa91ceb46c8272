use mathlib.Core.Path.{refl}
use native.Mathlib.Omega.{arith}
use borrow.Author.Rules.{rules}
use Rattle.feed.proofs.Closings.{shown_none, shown_next, shown_all, mark_short}
use Rattle.feed.proofs.closing.print_marks.Goals as goal

pub loop-mark-init : goal.loop-mark-init
loop-mark-init c = let a = c.args in (refl, omega arith, shown_none a.marks.now a.out.now)

pub overflow_add-sum : goal.overflow_add-sum
overflow_add-sum c = let a = c.args in let l = c.loop-mark in omega (arith, mark_short _ _ c.print_mark-sum.ensures.1, l.invariant.1, c.requires.1)

pub loop-mark-preserved : goal.loop-mark-preserved
loop-mark-preserved c = let a = c.args in let l = c.loop-mark in let f = c.print_mark-sum in
    (search rules, omega (arith, mark_short _ _ f.ensures.1, l.invariant.1), shown_next a.marks.now l.mark-index l.sum f.result _ l.out _ a.out.now c.loop-mark-test.true l.invariant.2 f.ensures.0 f.ensures.1)

pub returns : goal.returns
returns c = let a = c.args in let l = c.loop-mark in let w = shown_all a.marks.now l.mark-index l.sum l.out a.out.now c.loop-mark-test.false l.invariant.2 in (w.0, w.1, omega (arith, l.invariant.1, c.requires.1))
