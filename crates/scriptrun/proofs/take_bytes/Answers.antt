use mathlib.Core.Path.{refl, ap}
use Rattle.std.proofs.Common.{length, take, drop, ◌-◌, arith}
use Rattle.loading.specs.States.{state_of}
use Rattle.feed.specs.Calls.{Left}
use Rattle.feed.proofs.Ends.{part_length, some_taken}
use Rattle.scriptrun.proofs.Bytes.{stands_none, stands_more, stands_all, come_on, prints_fed}
use Rattle.scriptrun.proofs.take_bytes.Goals as goal

pub loop-at-init : goal.loop-at-init
loop-at-init c = let p = c.requires.ready in (omega arith, refl, p.1, p.0, stands_none _ _ c.args.bytes.now)

pub print-sound-requires : goal.print-sound-requires
print-sound-requires c =
    let a = c.args in let l = c.loop-at in let f = c.feed-course in
    prints_fed l.current (take l.pending l.line) (take (length a.bytes.now - l.at) (drop l.at a.bytes.now)) l.text l.marks l.out f.result _ _ _ _ f.ensures.out_after (come_on _ _ _ _ (take l.at a.bytes.now) c.requires.come l.invariant.4)

pub loop-at-smaller : goal.loop-at-smaller
loop-at-smaller c =
    let a = c.args in let l = c.loop-at in let f = c.feed-course in
    let taken = some_taken l.current (take l.pending l.line) (take (length a.bytes.now - l.at) (drop l.at a.bytes.now)) l.text l.marks l.out f.result _ _ _ _ f.ensures.out_after f.ensures.out_len_bound
    (omega (arith, l.invariant.1, c.requires.ready.3)) (omega (arith, part_length a.bytes.now l.at, c.loop-at-test.true)) in
    omega (arith, taken, f.ensures.ready.2, part_length a.bytes.now l.at)

pub loop-at-preserved : goal.loop-at-preserved
loop-at-preserved c =
    let a = c.args in let l = c.loop-at in let f = c.feed-course in (
      omega (arith, f.ensures.ready.2, part_length a.bytes.now l.at, l.invariant.0),
      omega (arith, f.auto.out, l.invariant.1),
      f.ensures.ready.1,
      f.ensures.ready.0,
      stands_more _ _ a.bytes.now l.at f.result.taken (state_of l.current l.text l.marks) _ (take l.pending l.line) _ l.invariant.4 (ap (λ (z : Left). z.state) f.ensures.out_after, ap (λ (z : Left). z.pending) f.ensures.out_after),
    )

pub returns : goal.returns
returns c = let a = c.args in let l = c.loop-at in record { ready_2 = (l.invariant.3, l.invariant.2); stands = stands_all _ _ a.bytes.now l.at _ _ c.loop-at-test.false l.invariant.4 }
