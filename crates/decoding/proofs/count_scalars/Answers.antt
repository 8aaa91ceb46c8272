use mathlib.Core.Path.{refl, sym, ◌∙◌}
use Prim.Native.Nat.{◌+◌}
use native.Mathlib.Omega.{arith}
use borrow.Author.Tests.{not-true, not-false}
use Rattle.std.proofs.lemmas.Result.{err_from_is_err_and}
use Rattle.decoding.proofs.Counts.{count_none, count_again, count_bad, count_all}
use Rattle.decoding.proofs.Runs.{count_run}
use Rattle.sequences.proofs.Steps.{ascii, three_step, three_lost, step-place}
use Rattle.utf8.proofs.Lead.{no_ones}
use Rattle.decoding.proofs.count_scalars.Goals as goal

pub loop-at-init : goal.loop-at-init
loop-at-init c = (omega arith, omega arith, count_none _)

pub overflow_add-at : goal.overflow_add-at
overflow_add-at c = let r = c.starts_block.ensures c.if-starts_block.true in omega (arith, r.0)

pub overflow_add-count : goal.overflow_add-count
overflow_add-count c = let r = c.starts_block.ensures c.if-starts_block.true in omega (arith, r.0)

pub loop-at-smaller-then-starts_block : goal.loop-at-smaller-then-starts_block
loop-at-smaller-then-starts_block c = let r = c.starts_block.ensures c.if-starts_block.true in omega (arith, r.0)

pub loop-at-preserved-then-starts_block : goal.loop-at-preserved-then-starts_block
loop-at-preserved-then-starts_block c = let l = c.loop-at in let s = c.args.bytes.now in
    let r = c.starts_block.ensures c.if-starts_block.true in
    (r.0, omega arith, sym (count_run s l.at.0 l.count 16 r.1 r.0) ∙ l.invariant.2)

pub loop-at-preserved-else-starts_block : goal.loop-at-preserved-else-starts_block
loop-at-preserved-else-starts_block c = let l = c.loop-at in let s = c.args.bytes.now in
    let t = count_again s l.at.0 l.count l.invariant.2 _ (l.at.0 + 1) (ascii s l.at.0 _ c.loop-at-test.true (no_ones _ (c.shared_slice_known-in-loop-at-1.given l.at.0).fits (sym c.leading_ones-ones.ensures ∙ c.if-ones-eq0.true)) refl) l.invariant.0 l.invariant.1 in
    (t.0, t.1, t.3)

pub returns-then-not-starts_three : goal.returns-then-not-starts_three
returns-then-not-starts_three c = let l = c.loop-at in let s = c.args.bytes.now in
    count_bad s l.at.0 l.count l.invariant.2 l.at.0 (three_lost s l.at.0 _ c.loop-at-test.true (c.shared_slice_known-in-loop-at-1.given l.at.0).fits c.leading_ones-ones.ensures c.if-ones-eq3.true (sym c.starts_three.ensures ∙ not-true _ c.if-not-starts_three.true-raw)) c.loop-at-test.true

pub overflow_add-at-then-ones-eq3 : goal.overflow_add-at-then-ones-eq3
overflow_add-at-then-ones-eq3 c = let l = c.loop-at in let s = c.args.bytes.now in
    let t = count_again s l.at.0 l.count l.invariant.2 _ (l.at.0 + 3) (three_step s l.at.0 _ c.loop-at-test.true (c.shared_slice_known-in-loop-at-1.given l.at.0).fits c.leading_ones-ones.ensures c.if-ones-eq3.true (sym c.starts_three.ensures ∙ not-false _ c.if-not-starts_three.false-raw)) l.invariant.0 l.invariant.1 in
    omega arith

pub overflow_add-count-then-ones-eq3 : goal.overflow_add-count-then-ones-eq3
overflow_add-count-then-ones-eq3 c = let l = c.loop-at in let s = c.args.bytes.now in
    let t = count_again s l.at.0 l.count l.invariant.2 _ (l.at.0 + 3) (three_step s l.at.0 _ c.loop-at-test.true (c.shared_slice_known-in-loop-at-1.given l.at.0).fits c.leading_ones-ones.ensures c.if-ones-eq3.true (sym c.starts_three.ensures ∙ not-false _ c.if-not-starts_three.false-raw)) l.invariant.0 l.invariant.1 in
    omega arith

pub loop-at-smaller-then-ones-eq3 : goal.loop-at-smaller-then-ones-eq3
loop-at-smaller-then-ones-eq3 c = let l = c.loop-at in let s = c.args.bytes.now in
    let t = count_again s l.at.0 l.count l.invariant.2 _ (l.at.0 + 3) (three_step s l.at.0 _ c.loop-at-test.true (c.shared_slice_known-in-loop-at-1.given l.at.0).fits c.leading_ones-ones.ensures c.if-ones-eq3.true (sym c.starts_three.ensures ∙ not-false _ c.if-not-starts_three.false-raw)) l.invariant.0 l.invariant.1 in
    omega arith

pub loop-at-preserved-then-ones-eq3 : goal.loop-at-preserved-then-ones-eq3
loop-at-preserved-then-ones-eq3 c = let l = c.loop-at in let s = c.args.bytes.now in
    let t = count_again s l.at.0 l.count l.invariant.2 _ (l.at.0 + 3) (three_step s l.at.0 _ c.loop-at-test.true (c.shared_slice_known-in-loop-at-1.given l.at.0).fits c.leading_ones-ones.ensures c.if-ones-eq3.true (sym c.starts_three.ensures ∙ not-false _ c.if-not-starts_three.false-raw)) l.invariant.0 l.invariant.1 in
    (t.0, t.1, t.3)

pub returns-in_err-at : goal.returns-in_err-at
returns-in_err-at c = let l = c.loop-at in let p = err_from_is_err_and c.from_residual.result c.from_residual.ensures.1 in
    rw (p.1, p.2, step-place c.args.bytes.now l.at.0 _ c.in_err-at.ensures) (count_bad _ l.at.0 l.count l.invariant.2 _ c.in_err-at.ensures c.loop-at-test.true)

pub loop-at-smaller : goal.loop-at-smaller
loop-at-smaller c = let l = c.loop-at in let t = count_again _ l.at.0 l.count l.invariant.2 _ _ c.in_ok-at.ensures l.invariant.0 l.invariant.1 in
    omega arith

pub loop-at-preserved : goal.loop-at-preserved
loop-at-preserved c = let l = c.loop-at in let t = count_again _ l.at.0 l.count l.invariant.2 _ _ c.in_ok-at.ensures l.invariant.0 l.invariant.1 in
    (t.0, t.1, t.3)

pub returns : goal.returns
returns c = let l = c.loop-at in count_all _ l.at.0 l.count l.invariant.2 c.loop-at-test.false
