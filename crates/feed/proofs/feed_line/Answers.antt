use native.Mathlib.Omega.{arith}
use Rattle.feed.proofs.Ends.{held-left}
use Rattle.feed.proofs.feed_line.Goals as goal

pub returns : goal.returns
returns c = let a = c.args in let p = c.requires in let e = c.line_end-end in let h = c.hold-count in record {
  out_after =
      held-left a.script a.bytes.now a.text.now a.marks.now a.out.now e.result a.pending h.result a.line.now _ e.ensures.0 c.if-end-bytes.false e.ensures.1 p.1 h.ensures.1;
  ready = (p.0, h.ensures.0, omega (arith, c.if-end-bytes.false, p.4), e.ensures.1, omega arith);
}
