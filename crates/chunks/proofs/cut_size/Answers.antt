use lib.ListN.{length}
use Rattle.blocks.proofs.Starts.{row_there}
use Rattle.chunks.proofs.Cuts.{sizing_next, sizing_bounds, sizing_done, cut_order, end-found}
use native.Mathlib.Omega.{arith}
use Rattle.chunks.proofs.cut_size.Goals as goal

pub cut_splice-cut-requires : goal.cut_splice-cut-requires
cut_splice-cut-requires c = let a = c.args in (c.requires.0, row_there a.text.now a.at.row.0 c.loop-k.k (length a.widths.now) (omega arith) c.requires.3, c.loop-k.invariant.begins (omega arith))

pub overflow_sub-gone : goal.overflow_sub-gone
overflow_sub-gone c = let q = cut_order c.loop-k.invariant (omega arith) c.requires.3 c.pad_at.result c.pad_at.ensures c.cut_splice-cut.result c.cut_splice-cut.ensures in omega (arith, q.0, q.1)

pub overflow_add-gone : goal.overflow_add-gone
overflow_add-gone c = let q = sizing_bounds (sizing_next c.loop-k.invariant (omega arith) c.requires.3 c.pad_at.result c.pad_at.ensures c.cut_splice-cut.result c.cut_splice-cut.ensures) in omega (arith, q.0, q.1, c.requires.0)

pub overflow_sub-payload : goal.overflow_sub-payload
overflow_sub-payload c = let q = cut_order c.loop-k.invariant (omega arith) c.requires.3 c.pad_at.result c.pad_at.ensures c.cut_splice-cut.result c.cut_splice-cut.ensures in omega (arith, q.0, q.1)

pub overflow_add-payload : goal.overflow_add-payload
overflow_add-payload c = let q = sizing_bounds (sizing_next c.loop-k.invariant (omega arith) c.requires.3 c.pad_at.result c.pad_at.ensures c.cut_splice-cut.result c.cut_splice-cut.ensures) in omega (arith, q.0, q.1, c.requires.0)

pub overflow_add-start : goal.overflow_add-start
overflow_add-start c = let q = cut_order c.loop-k.invariant (omega arith) c.requires.3 c.pad_at.result c.pad_at.ensures c.cut_splice-cut.result c.cut_splice-cut.ensures in omega (arith, end-found c.loop-k.invariant (omega arith) c.requires.3 c.pad_at.result c.pad_at.ensures c.cut_splice-cut.result c.cut_splice-cut.ensures, q.2, c.requires.0)

pub loop-k-preserved : goal.loop-k-preserved
loop-k-preserved c = sizing_next c.loop-k.invariant (omega arith) c.requires.3 c.pad_at.result c.pad_at.ensures c.cut_splice-cut.result c.cut_splice-cut.ensures

pub overflow_sub-result : goal.overflow_sub-result
overflow_sub-result c = (sizing_bounds c.loop-k.invariant).0

pub returns : goal.returns
returns c = sizing_done c.loop-k.invariant c.line_to_char-first.result c.line_to_char-first.ensures (omega arith)
