use Prim.Native.Nat.{◌+◌}
use native.Mathlib.Omega.{arith}
use Rattle.recording.proofs.Totals.{Near, near, gone_few, come_few, totals_none, totals_next, totals_all}
use Rattle.recording.proofs.sum_steps.Goals.{After-five_at-s}
use Rattle.recording.proofs.sum_steps.Goals as goal

here : (c : After-five_at-s) → let a = c.args in Near a.text.now a.payload.now c.loop-i.next c.loop-i.taken c.five_at-s.result
here c = let a = c.args in let l = c.loop-i in
    near a.text.now a.steps.now a.payload.now a.n a.made l.laid l.cut l.going l.coming l.next l.taken l.i l.invariant c.five_at-s.result c.five_at-s.ensures.five c.loop-i-test.true c.requires.2 c.requires.4

pub loop-i-init : goal.loop-i-init
loop-i-init c = let a = c.args in totals_none a.text.now a.steps.now a.payload.now a.n a.made

pub overflow_add-from : goal.overflow_add-from
overflow_add-from c = omega (arith, here (goal.at.overflow_add-from c).After-five_at-s)

pub overflow_add-to : goal.overflow_add-to
overflow_add-to c = omega (arith, here (goal.at.overflow_add-to c).After-five_at-s)

pub overflow_add-till : goal.overflow_add-till
overflow_add-till c = omega (arith, here (goal.at.overflow_add-till c).After-five_at-s)

pub overflow_add-laid : goal.overflow_add-laid
overflow_add-laid c = omega (arith, here (goal.at.overflow_add-laid c).After-five_at-s)

pub overflow_add-laid-in-loop-i : goal.overflow_add-laid-in-loop-i
overflow_add-laid-in-loop-i c = omega (arith, here (goal.at.overflow_add-laid-in-loop-i c).After-five_at-s)

pub overflow_add-laid-in-loop-i-2 : goal.overflow_add-laid-in-loop-i-2
overflow_add-laid-in-loop-i-2 c = omega (arith, here (goal.at.overflow_add-laid-in-loop-i-2 c).After-five_at-s)

pub overflow_add-cut : goal.overflow_add-cut
overflow_add-cut c = omega (arith, here (goal.at.overflow_add-cut c).After-five_at-s)

pub offset_bounds-text-from : goal.offset_bounds-text-from
offset_bounds-text-from c = omega (arith, here (goal.at.offset_bounds-text-from c).After-five_at-s)

pub slice_bounds-breaks_in-count : goal.slice_bounds-breaks_in-count
slice_bounds-breaks_in-count c = omega (arith, here (goal.at.slice_bounds-breaks_in-count c).After-five_at-s)

pub slice_bounds-breaks_in-start : goal.slice_bounds-breaks_in-start
slice_bounds-breaks_in-start c = omega (arith, here (goal.at.slice_bounds-breaks_in-start c).After-five_at-s)

pub slice_bounds-breaks_in-end : goal.slice_bounds-breaks_in-end
slice_bounds-breaks_in-end c = omega (arith, here (goal.at.slice_bounds-breaks_in-end c).After-five_at-s)

pub overflow_add-going : goal.overflow_add-going
overflow_add-going c = let l = c.loop-i in let s = c.five_at-s.result in omega (arith, here (goal.at.overflow_add-going c).After-five_at-s, gone_few c.args.text.now (l.next + s.keep) s.gone _ c.breaks_in-going.ensures)

pub offset_bounds-payload-taken : goal.offset_bounds-payload-taken
offset_bounds-payload-taken c = omega (arith, here (goal.at.offset_bounds-payload-taken c).After-five_at-s, c.well_formed)

pub slice_bounds-brought_breaks-count : goal.slice_bounds-brought_breaks-count
slice_bounds-brought_breaks-count c = omega (arith, here (goal.at.slice_bounds-brought_breaks-count c).After-five_at-s)

pub slice_bounds-brought_breaks-start : goal.slice_bounds-brought_breaks-start
slice_bounds-brought_breaks-start c = omega (arith, here (goal.at.slice_bounds-brought_breaks-start c).After-five_at-s)

pub slice_bounds-brought_breaks-end : goal.slice_bounds-brought_breaks-end
slice_bounds-brought_breaks-end c = omega (arith, here (goal.at.slice_bounds-brought_breaks-end c).After-five_at-s)

pub brought_breaks-coming-requires : goal.brought_breaks-coming-requires
brought_breaks-coming-requires c = c.five_at-s.ensures.small.0

pub overflow_add-coming : goal.overflow_add-coming
overflow_add-coming c = let l = c.loop-i in let s = c.five_at-s.result in let a = c.args in omega (arith, come_few a.payload.now a.made s.pad l.taken s.come _ c.brought_breaks-coming.ensures, c.five_at-s.ensures.small, l.invariant.coming_few, c.requires.1, c.loop-i-test.true)

pub loop-i-preserved : goal.loop-i-preserved
loop-i-preserved c = let a = c.args in let l = c.loop-i in let f = c.five_at-s in
    totals_next a.text.now a.steps.now a.payload.now a.n a.made l.laid l.cut l.going l.coming l.next l.taken l.i l.invariant f.result f.ensures.five c.loop-i-test.true f.ensures.small _ _ c.breaks_in-going.ensures c.brought_breaks-coming.ensures c.requires.2 c.requires.3

pub overflow_sub-result : goal.overflow_sub-result
overflow_sub-result c = omega (arith, c.loop-i.invariant.next_rest, c.requires.2)

pub overflow_add-result : goal.overflow_add-result
overflow_add-result c = omega (arith, c.loop-i.invariant.laid-few, c.loop-i.auto.i-end, c.requires.1, c.requires.3)

pub returns : goal.returns
returns c = let a = c.args in let l = c.loop-i in totals_all a.text.now a.steps.now a.payload.now a.n a.made l.laid l.cut l.going l.coming l.next l.taken l.i l.invariant c.loop-i-test.false c.requires.2
