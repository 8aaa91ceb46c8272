use mathlib.Core.Path.{refl}
use Prim.Native.Nat.{◌-◌}
use native.Mathlib.Omega.{arith}
use lib.ListN.{length, take, drop}
use Rattle.feed.proofs.Ends.{part_length, some_taken}
use Rattle.std.proofs.lemmas.Result.{err_from_is_err_and}
use Rattle.script.proofs.Goings.{none_printed, stays_long}
use Rattle.script.proofs.Feedings.{fed-goes, fed-over}
use Rattle.script.proofs.feeding.feed_all.Goals as goal

pub loop-at-init : goal.loop-at-init
loop-at-init c = let a = c.args in (omega arith, refl, refl, refl, refl, refl, omega arith, omega arith, c.requires.0, none_printed a.keep _ _)

pub feed-course-requires : goal.feed-course-requires
feed-course-requires c = let l = c.loop-at in (l.invariant.8, l.invariant.7, omega (arith, l.invariant.1, c.requires.1))

pub slice_bounds-add_part-end : goal.slice_bounds-add_part-end
slice_bounds-add_part-end c = omega (arith, c.feed-course.ensures.ready.3, c.feed-course.auto.out)

pub add_part-requires : goal.add_part-requires
add_part-requires c = let l = c.loop-at in omega (arith, l.invariant.5, l.invariant.6)

pub returns-in_err-printed : goal.returns-in_err-printed
returns-in_err-printed c = let a = c.args in let l = c.loop-at in let f = c.feed-course in let q = err_from_is_err_and c.from_residual.result c.from_residual.ensures.1 in rw q.1 (record {
  ready = tt;
  goes = stays_long a.keep _ _ _ _ _ c.add_part.result _ _ c.in_err-printed.was (fed-goes a.keep _ _ l.current l.pending l.at l.printed l.line l.text l.marks l.room a.input.now _ _ f.result _ _ _ _ c.add_part.result f.ensures.out_after c.add_part.ensures.by_index l.invariant.9);
})

pub overflow_add-at : goal.overflow_add-at
overflow_add-at c = let a = c.args in let l = c.loop-at in let f = c.feed-course in omega (arith, f.ensures.ready.2, part_length a.input.now l.at, l.invariant.0, c.well_formed)

pub loop-at-smaller : goal.loop-at-smaller
loop-at-smaller c = let a = c.args in let l = c.loop-at in let f = c.feed-course in
    let k = some_taken l.current (take l.pending l.line) (take (length a.input.now - l.at) (drop l.at a.input.now)) l.text l.marks l.room f.result _ _ _ _ f.ensures.out_after f.ensures.out_len_bound (omega (arith, l.invariant.4, c.requires.2)) (omega (arith, part_length a.input.now l.at, c.loop-at-test.true)) in
    omega (arith, k, f.ensures.ready.2, part_length a.input.now l.at)

pub loop-at-preserved : goal.loop-at-preserved
loop-at-preserved c = let a = c.args in let l = c.loop-at in let f = c.feed-course in let p = c.add_part in (
  omega (arith, f.ensures.ready.2, part_length a.input.now l.at, l.invariant.0),
  omega (arith, f.auto.line, l.invariant.1),
  omega (arith, f.auto.text, l.invariant.2),
  omega (arith, f.auto.marks, l.invariant.3),
  omega (arith, f.auto.out, l.invariant.4),
  omega (arith, p.auto.out, l.invariant.5),
  omega (arith, c.in_ok-printed.ensures.printed_in_bounds, l.invariant.5),
  f.ensures.ready.1,
  f.ensures.ready.0,
  (fed-goes a.keep _ _ l.current l.pending l.at l.printed l.line l.text l.marks l.room a.input.now _ _ f.result _ _ _ _ p.result f.ensures.out_after p.ensures.by_index l.invariant.9).on _ c.in_ok-printed.was,
)

pub returns : goal.returns
returns c = let a = c.args in let l = c.loop-at in record { ready = (l.invariant.8, l.invariant.6); goes = fed-over a.keep _ _ l.current l.pending l.at l.printed l.line l.text l.marks a.input.now _ c.loop-at-test.false (omega (arith, l.invariant.7, l.invariant.1, c.requires.1)) l.invariant.9 }
