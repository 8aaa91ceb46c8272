use mathlib.Core.Path.{refl}
use Prim.Native.Nat.{◌+◌, ◌-◌}
use native.Mathlib.Omega.{arith}
use lib.ListN.{length}
use Rattle.std.proofs.lemmas.Slice.{put_mid-paste}
use Rattle.recording.proofs.Cutting.{cutting_none, cutting_next, cutting_all, Part, part, part_of}
use Rattle.recording.proofs.record_cut.Goals.{After-five_at-s}
use Rattle.recording.proofs.record_cut.Goals as goal

near : (c : After-five_at-s) → let l = c.loop-i in Part c.args.text.now l.out l.next l.done c.five_at-s.result
near c = let a = c.args in let l = c.loop-i in
    part a.text.now a.steps.now a.out.now l.out a.n l.next l.done l.i l.invariant c.five_at-s.result c.five_at-s.ensures.five c.loop-i-test.true

pub loop-i-init : goal.loop-i-init
loop-i-init c = let a = c.args in cutting_none a.text.now a.steps.now a.out.now a.n c.requires.1 c.requires.2

pub overflow_add-end : goal.overflow_add-end
overflow_add-end c = omega (arith, near (goal.at.overflow_add-end c).After-five_at-s)

pub overflow_add-end-in-loop-i : goal.overflow_add-end-in-loop-i
overflow_add-end-in-loop-i c = omega (arith, near (goal.at.overflow_add-end-in-loop-i c).After-five_at-s)

pub slice_bounds-copy_from_slice-end : goal.slice_bounds-copy_from_slice-end
slice_bounds-copy_from_slice-end c = omega (arith, near (goal.at.slice_bounds-copy_from_slice-end c).After-five_at-s)

pub offset_bounds-text-start : goal.offset_bounds-text-start
offset_bounds-text-start c = omega (arith, near (goal.at.offset_bounds-text-start c).After-five_at-s)

pub slice_bounds-copy_from_slice-end-in-loop-i : goal.slice_bounds-copy_from_slice-end-in-loop-i
slice_bounds-copy_from_slice-end-in-loop-i c = (near (goal.at.slice_bounds-copy_from_slice-end-in-loop-i c).After-five_at-s).in_text_lem

pub loop-i-preserved : goal.loop-i-preserved
loop-i-preserved c = let a = c.args in let l = c.loop-i in let s = c.five_at-s.result in
    let p = near (goal.at.loop-i-preserved c).After-five_at-s in
    let x = part_of a.text.now l.next s in
    cutting_next a.text.now a.steps.now a.out.now l.out a.n l.next l.done l.i l.invariant s c.five_at-s.ensures.five c.loop-i-test.true _
    (put_mid-paste l.done (l.done + s.back - l.done) l.out _ x (length x) c.copy_from_slice.ensures.after (omega arith) refl)

pub returns : goal.returns
returns c = let a = c.args in let l = c.loop-i in cutting_all a.text.now a.steps.now a.out.now l.out a.n l.next l.done l.i l.invariant (omega arith)
