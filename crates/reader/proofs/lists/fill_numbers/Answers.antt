use mathlib.Core.Path.{refl, ◌∙◌}
use native.Mathlib.Omega.{arith}
use Rattle.reader.proofs.Gathers.{gathers-none, gathers-all, chunk-counts, gathers-more, number-in_front}
use Rattle.reader.proofs.lists.fill_numbers.Goals as goal

pub loop-i-init : goal.loop-i-init
loop-i-init c = let a = c.args in let h = c.chunks_exact.ensures in let y = c.enumerate-i-items.ensures in let z = c.into_iter-i-iterator.ensures.into_iter_gives in
    rw (z, y.source) (gathers-none a.step _ a.bytes.now a.out.now _ _ _ _ h.size y.count h.rest refl)

pub number_at-requires : goal.number_at-requires
number_at-requires c = omega (arith, c.in-Some.ensures.steps.0.1.1, c.loop-i.invariant.0)

pub bounds-out-i : goal.bounds-out-i
bounds-out-i c = let l = c.loop-i in let a = c.args in let d = c.in-Some.ensures.steps in
    omega (arith, d.1, chunk-counts a.step _ a.bytes.now a.out.now _ _ _ _ l.invariant (omega arith) c.in-Some.item.now _ d.0.1.0 d.0.1.1)

pub loop-i-preserved : goal.loop-i-preserved
loop-i-preserved c = let l = c.loop-i in let a = c.args in let d = c.in-Some.ensures.steps in
    let m = chunk-counts a.step _ a.bytes.now a.out.now _ _ _ _ l.invariant (omega arith) c.in-Some.item.now _ d.0.1.0 d.0.1.1 in
    gathers-more a.step _ a.bytes.now a.out.now _ _ _ _ l.invariant (omega arith) c.in-Some.item.now _ d.0.1.0 d.0.1.1 c.in-Some.i _ _ _ d.1 d.2 d.0.0 (omega arith) (c.number_at.ensures ∙ number-in_front c.in-Some.item.now _ a.at (omega (arith, d.0.1.1, l.invariant.0)))

pub returns : goal.returns
returns c = let l = c.loop-i in let a = c.args in gathers-all a.step _ a.bytes.now a.out.now _ _ _ _ l.invariant (omega arith) c.in-None.ensures.steps.0.1.0
