use mathlib.Core.Path.{refl}
use Prim.Native.Nat.{◌+◌}
use native.Mathlib.Omega.{arith}
use lib.ListN.{length-set}
use Rattle.decoding.proofs.Fills.{Filled, fill_again, fill_one, fill_two, fill_three, fill_four, fill_all}
use Rattle.decoding.proofs.Runs.{fill_run}
use Rattle.utf8.specs.Calls.{scalars_of}
use Rattle.utf8.specs.Reading.{reading}
use Rattle.decoding.proofs.fill_scalars.Goals.{After-number_of_four, After-number_of_three, After-number_of_two, After-from}
use Rattle.decoding.proofs.fill_scalars.Goals as goal

-- a turn, on each way
ascii-turn : (c : After-from) → Filled c.args.bytes.now (scalars_of (reading c.args.bytes.now)) c.args.out.now c.loop-at.out c.loop-at.at.0 c.loop-at.count c.from.result (c.loop-at.at.0 + 1)
ascii-turn c =
    let l = c.loop-at in
    fill_again _ _ l.at.0 l.count l.invariant.3 _ _ c.from.result (l.at.0 + 1) (fill_one _ _ l.at.0 l.count l.invariant.3 c.loop-at-test.true _ (c.shared_slice_known-in-loop-at-1.given l.at.0).fits c.leading_ones-ones.ensures c.if-ones-le1.true _ c.from.ensures) l.invariant.0 c.requires.1 l.invariant.4

two-turn : (c : After-number_of_two) → Filled c.args.bytes.now (scalars_of (reading c.args.bytes.now)) c.args.out.now c.loop-at.out c.loop-at.at.0 c.loop-at.count c.number_of_two.result (c.loop-at.at.0 + 2)
two-turn c =
    let l = c.loop-at in
    fill_again _ _ l.at.0 l.count l.invariant.3 _ _ c.number_of_two.result (l.at.0 + 2) ((fill_two _ _ l.at.0 l.count l.invariant.3 c.loop-at-test.true _ (c.shared_slice_known-in-loop-at-1.given l.at.0).fits c.leading_ones-ones.ensures c.if-ones-le1.false c.if-ones-le2.true).1 _ c.number_of_two.ensures) l.invariant.0 c.requires.1 l.invariant.4

three-turn : (c : After-number_of_three) → Filled c.args.bytes.now (scalars_of (reading c.args.bytes.now)) c.args.out.now c.loop-at.out c.loop-at.at.0 c.loop-at.count c.number_of_three.result (c.loop-at.at.0 + 3)
three-turn c =
    let l = c.loop-at in
    fill_again _ _ l.at.0 l.count l.invariant.3 _ _ c.number_of_three.result (l.at.0 + 3) ((fill_three _ _ l.at.0 l.count l.invariant.3 c.loop-at-test.true _ (c.shared_slice_known-in-loop-at-1.given l.at.0).fits c.leading_ones-ones.ensures c.if-ones-le2.false c.if-ones-le3.true).1 _ c.number_of_three.ensures) l.invariant.0 c.requires.1 l.invariant.4

four-turn : (c : After-number_of_four) → Filled c.args.bytes.now (scalars_of (reading c.args.bytes.now)) c.args.out.now c.loop-at.out c.loop-at.at.0 c.loop-at.count c.number_of_four.result (c.loop-at.at.0 + 4)
four-turn c =
    let l = c.loop-at in
    fill_again _ _ l.at.0 l.count l.invariant.3 _ _ c.number_of_four.result (l.at.0 + 4) ((fill_four _ _ l.at.0 l.count l.invariant.3 c.loop-at-test.true _ (c.shared_slice_known-in-loop-at-1.given l.at.0).fits c.leading_ones-ones.ensures c.if-ones-le3.false).1 _ c.number_of_four.ensures) l.invariant.0 c.requires.1 l.invariant.4

pub loop-at-init : goal.loop-at-init
loop-at-init c = (omega arith, refl, omega arith, c.requires.0, refl)

pub widen_block-requires : goal.widen_block-requires
widen_block-requires c = let l = c.loop-at in let a = c.args in let s = a.bytes.now in
    let g = c.starts_block.ensures c.if-starts_block.true in
    let r = fill_run s (scalars_of (reading s)) a.out.now l.out l.at.0 l.count 16 l.invariant.3 l.invariant.4 l.invariant.2 c.requires.1 l.invariant.1 g.1 g.0 in
    (g.0, omega (arith, r.0, l.invariant.1, c.requires.1))

pub overflow_add-at : goal.overflow_add-at
overflow_add-at c = let l = c.loop-at in let a = c.args in let s = a.bytes.now in
    let g = c.starts_block.ensures c.if-starts_block.true in
    let r = fill_run s (scalars_of (reading s)) a.out.now l.out l.at.0 l.count 16 l.invariant.3 l.invariant.4 l.invariant.2 c.requires.1 l.invariant.1 g.1 g.0 in
    omega (arith, g.0)

pub overflow_add-count : goal.overflow_add-count
overflow_add-count c = let l = c.loop-at in let a = c.args in let s = a.bytes.now in
    let g = c.starts_block.ensures c.if-starts_block.true in
    let r = fill_run s (scalars_of (reading s)) a.out.now l.out l.at.0 l.count 16 l.invariant.3 l.invariant.4 l.invariant.2 c.requires.1 l.invariant.1 g.1 g.0 in
    omega (arith, r.0, l.invariant.1, c.requires.1)

pub loop-at-smaller-then-starts_block : goal.loop-at-smaller-then-starts_block
loop-at-smaller-then-starts_block c = let l = c.loop-at in let a = c.args in let s = a.bytes.now in
    let g = c.starts_block.ensures c.if-starts_block.true in
    let r = fill_run s (scalars_of (reading s)) a.out.now l.out l.at.0 l.count 16 l.invariant.3 l.invariant.4 l.invariant.2 c.requires.1 l.invariant.1 g.1 g.0 in
    omega (arith, g.0)

pub loop-at-preserved-then-starts_block : goal.loop-at-preserved-then-starts_block
loop-at-preserved-then-starts_block c = let l = c.loop-at in let a = c.args in let s = a.bytes.now in
    let g = c.starts_block.ensures c.if-starts_block.true in
    let r = fill_run s (scalars_of (reading s)) a.out.now l.out l.at.0 l.count 16 l.invariant.3 l.invariant.4 l.invariant.2 c.requires.1 l.invariant.1 g.1 g.0 in
    (g.0, omega arith, r.0, r.1, rw c.widen_block.ensures r.2)

pub offset_bounds-out-count : goal.offset_bounds-out-count
offset_bounds-out-count c = let t = ascii-turn (goal.at.offset_bounds-out-count c).After-from in omega arith

pub bounds-out-count : goal.bounds-out-count
bounds-out-count c = let t = ascii-turn (goal.at.bounds-out-count c).After-from in omega arith

pub overflow_add-at-else-starts_block : goal.overflow_add-at-else-starts_block
overflow_add-at-else-starts_block c = let t = ascii-turn (goal.at.overflow_add-at-else-starts_block c).After-from in omega arith

pub overflow_add-count-else-starts_block : goal.overflow_add-count-else-starts_block
overflow_add-count-else-starts_block c = let t = ascii-turn (goal.at.overflow_add-count-else-starts_block c).After-from in omega arith

pub loop-at-smaller-else-starts_block : goal.loop-at-smaller-else-starts_block
loop-at-smaller-else-starts_block c = let t = ascii-turn (goal.at.loop-at-smaller-else-starts_block c).After-from in omega arith

pub loop-at-preserved-else-starts_block : goal.loop-at-preserved-else-starts_block
loop-at-preserved-else-starts_block c = let t = ascii-turn (goal.at.loop-at-preserved-else-starts_block c).After-from in (t.0, simp length-set c.loop-at.invariant.1, omega arith, t.3, t.4)

pub bounds-bytes-start-then-ones-le2 : goal.bounds-bytes-start-then-ones-le2
bounds-bytes-start-then-ones-le2 c = let l = c.loop-at in let r = (fill_two _ _ l.at.0 l.count l.invariant.3 c.loop-at-test.true _ (c.shared_slice_known-in-loop-at-1.given l.at.0).fits c.leading_ones-ones.ensures c.if-ones-le1.false c.if-ones-le2.true).0 in omega arith

pub offset_bounds-out-count-then-ones-le2 : goal.offset_bounds-out-count-then-ones-le2
offset_bounds-out-count-then-ones-le2 c = let t = two-turn (goal.at.offset_bounds-out-count-then-ones-le2 c).After-number_of_two in omega arith

pub bounds-out-count-then-ones-le2 : goal.bounds-out-count-then-ones-le2
bounds-out-count-then-ones-le2 c = let t = two-turn (goal.at.bounds-out-count-then-ones-le2 c).After-number_of_two in omega arith

pub overflow_add-at-then-ones-le2 : goal.overflow_add-at-then-ones-le2
overflow_add-at-then-ones-le2 c = let t = two-turn (goal.at.overflow_add-at-then-ones-le2 c).After-number_of_two in omega arith

pub overflow_add-count-then-ones-le2 : goal.overflow_add-count-then-ones-le2
overflow_add-count-then-ones-le2 c = let t = two-turn (goal.at.overflow_add-count-then-ones-le2 c).After-number_of_two in omega arith

pub loop-at-smaller-then-ones-le2 : goal.loop-at-smaller-then-ones-le2
loop-at-smaller-then-ones-le2 c = let t = two-turn (goal.at.loop-at-smaller-then-ones-le2 c).After-number_of_two in omega arith

pub loop-at-preserved-then-ones-le2 : goal.loop-at-preserved-then-ones-le2
loop-at-preserved-then-ones-le2 c = let t = two-turn (goal.at.loop-at-preserved-then-ones-le2 c).After-number_of_two in (t.0, simp length-set c.loop-at.invariant.1, omega arith, t.3, t.4)

pub bounds-bytes-start-then-ones-le3 : goal.bounds-bytes-start-then-ones-le3
bounds-bytes-start-then-ones-le3 c = let l = c.loop-at in let r = (fill_three _ _ l.at.0 l.count l.invariant.3 c.loop-at-test.true _ (c.shared_slice_known-in-loop-at-1.given l.at.0).fits c.leading_ones-ones.ensures c.if-ones-le2.false c.if-ones-le3.true).0 in omega arith

pub overflow_add-start-then-ones-le3-2 : goal.overflow_add-start-then-ones-le3-2
overflow_add-start-then-ones-le3-2 c = let l = c.loop-at in let r = (fill_three _ _ l.at.0 l.count l.invariant.3 c.loop-at-test.true _ (c.shared_slice_known-in-loop-at-1.given l.at.0).fits c.leading_ones-ones.ensures c.if-ones-le2.false c.if-ones-le3.true).0 in omega arith

pub bounds-bytes-start-then-ones-le3-2 : goal.bounds-bytes-start-then-ones-le3-2
bounds-bytes-start-then-ones-le3-2 c = let l = c.loop-at in let r = (fill_three _ _ l.at.0 l.count l.invariant.3 c.loop-at-test.true _ (c.shared_slice_known-in-loop-at-1.given l.at.0).fits c.leading_ones-ones.ensures c.if-ones-le2.false c.if-ones-le3.true).0 in omega arith

pub offset_bounds-out-count-then-ones-le3 : goal.offset_bounds-out-count-then-ones-le3
offset_bounds-out-count-then-ones-le3 c = let t = three-turn (goal.at.offset_bounds-out-count-then-ones-le3 c).After-number_of_three in omega arith

pub bounds-out-count-then-ones-le3 : goal.bounds-out-count-then-ones-le3
bounds-out-count-then-ones-le3 c = let t = three-turn (goal.at.bounds-out-count-then-ones-le3 c).After-number_of_three in omega arith

pub overflow_add-at-then-ones-le3 : goal.overflow_add-at-then-ones-le3
overflow_add-at-then-ones-le3 c = let t = three-turn (goal.at.overflow_add-at-then-ones-le3 c).After-number_of_three in omega arith

pub overflow_add-count-then-ones-le3 : goal.overflow_add-count-then-ones-le3
overflow_add-count-then-ones-le3 c = let t = three-turn (goal.at.overflow_add-count-then-ones-le3 c).After-number_of_three in omega arith

pub loop-at-smaller-then-ones-le3 : goal.loop-at-smaller-then-ones-le3
loop-at-smaller-then-ones-le3 c = let t = three-turn (goal.at.loop-at-smaller-then-ones-le3 c).After-number_of_three in omega arith

pub loop-at-preserved-then-ones-le3 : goal.loop-at-preserved-then-ones-le3
loop-at-preserved-then-ones-le3 c = let t = three-turn (goal.at.loop-at-preserved-then-ones-le3 c).After-number_of_three in (t.0, simp length-set c.loop-at.invariant.1, omega arith, t.3, t.4)

pub bounds-bytes-start-else-ones-le3 : goal.bounds-bytes-start-else-ones-le3
bounds-bytes-start-else-ones-le3 c = let l = c.loop-at in let r = (fill_four _ _ l.at.0 l.count l.invariant.3 c.loop-at-test.true _ (c.shared_slice_known-in-loop-at-1.given l.at.0).fits c.leading_ones-ones.ensures c.if-ones-le3.false).0 in omega arith

pub overflow_add-start-else-ones-le3-2 : goal.overflow_add-start-else-ones-le3-2
overflow_add-start-else-ones-le3-2 c = let l = c.loop-at in let r = (fill_four _ _ l.at.0 l.count l.invariant.3 c.loop-at-test.true _ (c.shared_slice_known-in-loop-at-1.given l.at.0).fits c.leading_ones-ones.ensures c.if-ones-le3.false).0 in omega arith

pub bounds-bytes-start-else-ones-le3-2 : goal.bounds-bytes-start-else-ones-le3-2
bounds-bytes-start-else-ones-le3-2 c = let l = c.loop-at in let r = (fill_four _ _ l.at.0 l.count l.invariant.3 c.loop-at-test.true _ (c.shared_slice_known-in-loop-at-1.given l.at.0).fits c.leading_ones-ones.ensures c.if-ones-le3.false).0 in omega arith

pub overflow_add-start-else-ones-le3-3 : goal.overflow_add-start-else-ones-le3-3
overflow_add-start-else-ones-le3-3 c = let l = c.loop-at in let r = (fill_four _ _ l.at.0 l.count l.invariant.3 c.loop-at-test.true _ (c.shared_slice_known-in-loop-at-1.given l.at.0).fits c.leading_ones-ones.ensures c.if-ones-le3.false).0 in omega arith

pub bounds-bytes-start-else-ones-le3-3 : goal.bounds-bytes-start-else-ones-le3-3
bounds-bytes-start-else-ones-le3-3 c = let l = c.loop-at in let r = (fill_four _ _ l.at.0 l.count l.invariant.3 c.loop-at-test.true _ (c.shared_slice_known-in-loop-at-1.given l.at.0).fits c.leading_ones-ones.ensures c.if-ones-le3.false).0 in omega arith

pub offset_bounds-out-count-else-ones-le3 : goal.offset_bounds-out-count-else-ones-le3
offset_bounds-out-count-else-ones-le3 c = let t = four-turn (goal.at.offset_bounds-out-count-else-ones-le3 c).After-number_of_four in omega arith

pub bounds-out-count-else-ones-le3 : goal.bounds-out-count-else-ones-le3
bounds-out-count-else-ones-le3 c = let t = four-turn (goal.at.bounds-out-count-else-ones-le3 c).After-number_of_four in omega arith

pub overflow_add-at-else-ones-le3 : goal.overflow_add-at-else-ones-le3
overflow_add-at-else-ones-le3 c = let t = four-turn (goal.at.overflow_add-at-else-ones-le3 c).After-number_of_four in omega arith

pub overflow_add-count-else-ones-le3 : goal.overflow_add-count-else-ones-le3
overflow_add-count-else-ones-le3 c = let t = four-turn (goal.at.overflow_add-count-else-ones-le3 c).After-number_of_four in omega arith

pub loop-at-smaller : goal.loop-at-smaller
loop-at-smaller c = let t = four-turn (goal.at.loop-at-smaller c).After-number_of_four in omega arith

pub loop-at-preserved : goal.loop-at-preserved
loop-at-preserved c = let t = four-turn (goal.at.loop-at-preserved c).After-number_of_four in (t.0, simp length-set c.loop-at.invariant.1, omega arith, t.3, t.4)

pub returns : goal.returns
returns c = let l = c.loop-at in fill_all _ _ l.at.0 l.count l.invariant.3 _ _ c.loop-at-test.false l.invariant.2 l.invariant.4
