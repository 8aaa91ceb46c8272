use mathlib.Core.Path.{refl}
use Prim.Native.Nat.{◌+◌, ◌≤◌}
use native.Mathlib.Omega.{arith}
use lib.ListN.{length}
use Rattle.reader.proofs.Chunks.{string_within, sound_next, tally_none, tally_again, tally_bad, tally_all}
use Rattle.reader.proofs.strings.count_chunks.Goals.{After-number_at-length}
use Rattle.reader.proofs.strings.count_chunks.Goals as goal

-- a string ends within the bytes
within : (c : After-number_at-length) → c.loop-at.at + 4 + c.number_at-length.result ≤ length c.args.strings.now
within c = let l = c.loop-at in string_within _ l.at c.number_at-length.result c.number_at-length.ensures c.loop-at-test.true l.invariant.3

pub loop-at-init : goal.loop-at-init
loop-at-init c = (omega arith, omega arith, omega arith, c.requires, tally_none _)

pub number_at-length-requires : goal.number_at-length-requires
number_at-length-requires c = let l = c.loop-at in let w = string_within c.args.strings.now l.at _ refl c.loop-at-test.true l.invariant.3 in omega arith

pub overflow_add-start : goal.overflow_add-start
overflow_add-start c = omega (arith, within (goal.at.overflow_add-start c).After-number_at-length)

pub overflow_add-end : goal.overflow_add-end
overflow_add-end c = omega (arith, within (goal.at.overflow_add-end c).After-number_at-length)

pub slice_bounds-count_scalars-count : goal.slice_bounds-count_scalars-count
slice_bounds-count_scalars-count c = omega (arith, within (goal.at.slice_bounds-count_scalars-count c).After-number_at-length)

pub slice_bounds-count_scalars-start : goal.slice_bounds-count_scalars-start
slice_bounds-count_scalars-start c = omega (arith, within (goal.at.slice_bounds-count_scalars-start c).After-number_at-length)

pub slice_bounds-count_scalars-end : goal.slice_bounds-count_scalars-end
slice_bounds-count_scalars-end c = omega (arith, within (goal.at.slice_bounds-count_scalars-end c).After-number_at-length)

pub overflow_add-result : goal.overflow_add-result
overflow_add-result c = let w = within (goal.at.overflow_add-result c).After-number_at-length in omega arith

pub overflow_add-result-in-Err : goal.overflow_add-result-in-Err
overflow_add-result-in-Err c = let l = c.loop-at in let t = tally_bad _ l.at l.chunks l.chars c.number_at-length.result _ c.number_at-length.ensures c.loop-at-test.true l.invariant.3 l.invariant.4 c.in-Err.bad.0.0 (rw c.in-Err.is at c.count_scalars-counted.ensures) in let w = within (goal.at.overflow_add-result-in-Err c).After-number_at-length in omega arith

pub returns-in-Err : goal.returns-in-Err
returns-in-Err c = let l = c.loop-at in let t = tally_bad _ l.at l.chunks l.chars c.number_at-length.result _ c.number_at-length.ensures c.loop-at-test.true l.invariant.3 l.invariant.4 c.in-Err.bad.0.0 (rw c.in-Err.is at c.count_scalars-counted.ensures) in t.1

pub overflow_add-chars : goal.overflow_add-chars
overflow_add-chars c = let l = c.loop-at in let t = tally_again _ l.at l.chunks l.chars c.number_at-length.result _ c.number_at-length.ensures c.loop-at-test.true l.invariant.3 l.invariant.4 c.in-Ok.count (rw c.in-Ok.is at c.count_scalars-counted.ensures) in let w = within (goal.at.overflow_add-chars c).After-number_at-length in omega arith

pub overflow_add-chunks : goal.overflow_add-chunks
overflow_add-chunks c = let w = within (goal.at.overflow_add-chunks c).After-number_at-length in omega arith

pub loop-at-smaller : goal.loop-at-smaller
loop-at-smaller c = let w = within (goal.at.loop-at-smaller c).After-number_at-length in omega arith

pub loop-at-preserved : goal.loop-at-preserved
loop-at-preserved c = let l = c.loop-at in let t = tally_again _ l.at l.chunks l.chars c.number_at-length.result _ c.number_at-length.ensures c.loop-at-test.true l.invariant.3 l.invariant.4 c.in-Ok.count (rw c.in-Ok.is at c.count_scalars-counted.ensures) in let w = within (goal.at.loop-at-preserved c).After-number_at-length in
    (w, omega arith, omega arith, sound_next _ l.at c.number_at-length.result c.number_at-length.ensures c.loop-at-test.true l.invariant.3, t.1)

pub returns : goal.returns
returns c = let l = c.loop-at in tally_all _ l.at l.chunks l.chars _ c.loop-at-test.false l.invariant.4
