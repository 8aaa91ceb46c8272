use mathlib.Core.List.{[], ◌∷◌}
use mathlib.Core.Path.{refl, sym, ap, ◌∙◌}
use Prim.Native.Nat.{◌+◌, ◌≤◌}
use native.Mathlib.Omega.{arith}
use lib.ListN.{length, get_or}
use Rattle.encoding.proofs.Fills.{one-room, one_again, three_room, three_again, fill_room, fill_again, exchanged, fill_all, next_scalar}
use Rattle.encoding.proofs.Sequences.{between, scalar_written}
use Rattle.utf8.specs.Answers.{paper_sequence}
use Rattle.utf8.specs.Reading.{writing}
use Rattle.encoding.proofs.fill_octets.Goals as goal
use Rattle.encoding.proofs.fill_octets.Goals.{Then-value-le127, Then-value, then-value-le127, else-value-le127+then-value, else-value-le127+else-value}

one_fits : (c : Then-value-le127) → c.loop-value.at.0 + 1 ≤ length (writing c.args.scalars.now)
one_fits c = let l = c.loop-value in let a = c.args in
    one-room a.scalars.now a.out.now l.out l.value-index l.at.0 c.loop-value-test.true l.invariant.1 l.invariant.2 c.requires.1 c.if-value-le127.true

three_fit : (c : Then-value) → c.loop-value.at.0 + 3 ≤ length (writing c.args.scalars.now)
three_fit c = let l = c.loop-value in let a = c.args in
    let w = between 0x7FF 0xFFFF (get_or a.scalars.now l.value-index 0) c.if-value.true in
    three_room a.scalars.now a.out.now l.out l.value-index l.at.0 c.loop-value-test.true l.invariant.1 l.invariant.2 c.requires.1 w.0 w.1

pub loop-value-init : goal.loop-value-init
loop-value-init c = (omega arith, c.requires.0, refl, refl)

pub bounds-out-start : goal.bounds-out-start
bounds-out-start c = let k = one_fits (goal.at.bounds-out-start c).Then-value-le127 in omega arith

pub overflow_add-at : goal.overflow_add-at
overflow_add-at c = let k = one_fits (goal.at.overflow_add-at c).Then-value-le127 in omega arith

pub lead_of_three-requires : goal.lead_of_three-requires
lead_of_three-requires c = (between 0x7FF 0xFFFF (get_or c.args.scalars.now c.loop-value.value-index 0) c.if-value.true).1

pub slice_bounds-copy_from_slice-end : goal.slice_bounds-copy_from_slice-end
slice_bounds-copy_from_slice-end c = let k = three_fit (goal.at.slice_bounds-copy_from_slice-end c).Then-value in omega arith

pub unwrap-requires : goal.unwrap-requires
unwrap-requires c = let l = c.loop-value in let s = c.args.scalars.now in
    scalar_written c.sequence_of.result (get_or s l.value-index 0) c.sequence_of.ensures (next_scalar s l.value-index c.loop-value-test.true l.invariant.1)

pub put-at-requires : goal.put-at-requires
put-at-requires c = let l = c.loop-value in let a = c.args in
    let e = ap paper_sequence (sym c.unwrap.ensures) ∙ c.sequence_of.ensures in
    let k = fill_room a.scalars.now a.out.now l.out l.value-index l.at.0 _ c.loop-value-test.true e l.invariant.1 l.invariant.2 c.requires.1 in
    omega arith

pub loop-value-preserved : goal.loop-value-preserved
loop-value-preserved c = let l = c.loop-value in let a = c.args in let s = a.scalars.now in let i = l.value-index in
    elim c.if-value-le127.branch [
      | then-value-le127 w ↦
          rw (w.out-is, w.at-is) (one_again s a.out.now l.out i l.at.0 c.loop-value-test.true l.invariant.1 l.invariant.2 c.requires.1 w.if-value-le127.true l.invariant.3)
      | else-value-le127+then-value w ↦
          let v = between 0x7FF 0xFFFF (get_or s i 0) w.if-value.true in
          let m = three_room s a.out.now l.out i l.at.0 c.loop-value-test.true l.invariant.1 l.invariant.2 c.requires.1 v.0 v.1 in
          let t = three_again s a.out.now l.out i l.at.0 c.loop-value-test.true l.invariant.1 l.invariant.2 c.requires.1 v.0 v.1 _ _ _ w.lead_of_three.ensures w.tail.ensures w.tail-then-value.ensures l.invariant.3 in
          let q = exchanged l.out (w.lead_of_three.result ∷ w.tail.result ∷ w.tail-then-value.result ∷ []) _ l.at.0 _ w.copy_from_slice.ensures.after (omega arith) (omega arith) in
          rw (w.out-is, w.at-is) (t.0, t.1, t.2, q ∙ t.3)
      | else-value-le127+else-value w ↦
          let e = ap paper_sequence (sym w.unwrap.ensures) ∙ w.sequence_of.ensures in
          let t = fill_again s a.out.now l.out i l.at.0 _ c.loop-value-test.true e l.invariant.1 l.invariant.2 c.requires.1 l.invariant.3 in
          let k = fill_room s a.out.now l.out i l.at.0 _ c.loop-value-test.true e l.invariant.1 l.invariant.2 c.requires.1 in
          let p = w.put-at.ensures in
          rw (w.out-is, w.at-is) (rw p.1 k, t.0, rw p.1 t.1, rw (p.0, p.1) t.2)
    ]

pub returns : goal.returns
returns c = let l = c.loop-value in fill_all _ _ _ l.value-index l.at.0 c.loop-value-test.false l.invariant.2 l.invariant.0 l.invariant.3
