use native.Mathlib.Omega.{arith}
use Rattle.feed.proofs.Ends.{whole-left, pieced_left}
use Rattle.feed.proofs.end_line.Goals as goal

pub overflow_add-result : goal.overflow_add-result
overflow_add-result c = omega (arith, c.requires.end_value.1, c.well_formed)

pub returns-then-pending-eq0 : goal.returns-then-pending-eq0
returns-then-pending-eq0 c = let a = c.args in let p = c.requires in let s = c.step-whole in record {
  out_after =
      whole-left a.script a.bytes.now a.text.now a.marks.now a.out.now p.ready.0 s.result _ _ _ a.end s.ensures.out_after p.end_value.0 p.end_value.1 a.pending c.if-pending-eq0.true a.line.now a.line.now;
  ready_2 = (s.ensures.ready.0, omega arith, omega arith, omega (arith, p.end_value.1), s.ensures.ready.1);
}

pub overflow_add-result-2 : goal.overflow_add-result-2
overflow_add-result-2 c = omega (arith, c.requires.end_value.1, c.well_formed)

pub returns : goal.returns
returns c = let a = c.args in let p = c.requires in let s = c.step-pieced in let h = c.hold-count in record {
  out_after =
      pieced_left a.script a.bytes.now a.text.now a.marks.now a.out.now p.ready.0 s.result _ _ _ a.end a.pending h.result a.line.now _ s.ensures.out_after p.end_value.0 p.end_value.1 p.ready.1 h.ensures.1;
  ready_2 = (s.ensures.ready.0, omega arith, omega arith, omega (arith, p.end_value.1), s.ensures.ready.1);
}
