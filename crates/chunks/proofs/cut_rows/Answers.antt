use Rattle.chunks.proofs.Cutting.{cutting_none, splice_asked, end-asked, row_asked, filled-bound, cutting_next, cutting_done}
use native.Mathlib.Omega.{arith}
use Rattle.chunks.proofs.cut_rows.Goals as goal

pub loop-k-init : goal.loop-k-init
loop-k-init c = let a = c.args in cutting_none a.text.now a.used a.at.row.0 a.at.col.0 a.widths.now a.pads.now a.out.now a.lens.now _ c.requires.0 c.requires.7

pub cut_splice-cut-requires : goal.cut_splice-cut-requires
cut_splice-cut-requires c = splice_asked c.loop-k.invariant (omega arith) c.requires.4 c.requires.1

pub cut_row-requires : goal.cut_row-requires
cut_row-requires c = row_asked c.loop-k.invariant (omega arith) c.requires.4 c.pad_at-pad.result c.pad_at-pad.ensures c.cut_splice-cut.result c.cut_splice-cut.ensures c.requires.5

pub overflow_sub-len : goal.overflow_sub-len
overflow_sub-len c = let q = row_asked c.loop-k.invariant (omega arith) c.requires.4 c.pad_at-pad.result c.pad_at-pad.ensures c.cut_splice-cut.result c.cut_splice-cut.ensures c.requires.5 in q.1

pub overflow_sub-gone : goal.overflow_sub-gone
overflow_sub-gone c = let q = row_asked c.loop-k.invariant (omega arith) c.requires.4 c.pad_at-pad.result c.pad_at-pad.ensures c.cut_splice-cut.result c.cut_splice-cut.ensures c.requires.5 in omega (arith, q.0, q.1)

pub overflow_cast-lens : goal.overflow_cast-lens
overflow_cast-lens c = let q = row_asked c.loop-k.invariant (omega arith) c.requires.4 c.pad_at-pad.result c.pad_at-pad.ensures c.cut_splice-cut.result c.cut_splice-cut.ensures c.requires.5 in omega (arith, q.1, q.2, c.loop-k.invariant.shrunk, c.requires.1)

pub overflow_add-filled : goal.overflow_add-filled
overflow_add-filled c = omega (arith, filled-bound c.loop-k.invariant (omega arith) c.requires.4 c.pad_at-pad.result c.pad_at-pad.ensures c.cut_splice-cut.result c.cut_splice-cut.ensures c.requires.5, c.requires.1)

pub overflow_sub-long : goal.overflow_sub-long
overflow_sub-long c = let q = row_asked c.loop-k.invariant (omega arith) c.requires.4 c.pad_at-pad.result c.pad_at-pad.ensures c.cut_splice-cut.result c.cut_splice-cut.ensures c.requires.5 in omega (arith, q.0, q.1, q.2)

pub overflow_sub-start : goal.overflow_sub-start
overflow_sub-start c = let z = end-asked c.loop-k.invariant (omega arith) c.requires.4 c.pad_at-pad.result c.pad_at-pad.ensures c.cut_splice-cut.result c.cut_splice-cut.ensures in z.0

pub overflow_add-start : goal.overflow_add-start
overflow_add-start c = let z = end-asked c.loop-k.invariant (omega arith) c.requires.4 c.pad_at-pad.result c.pad_at-pad.ensures c.cut_splice-cut.result c.cut_splice-cut.ensures in omega (arith, z.1, c.loop-k.invariant.shrunk, c.requires.1)

pub loop-k-preserved : goal.loop-k-preserved
loop-k-preserved c = cutting_next c.loop-k.invariant (omega arith) c.requires.4 c.pad_at-pad.result c.pad_at-pad.ensures c.cut_splice-cut.result c.cut_splice-cut.ensures c.requires.5 _ _ c.cut_row.ensures c.requires.6

pub returns : goal.returns
returns c = cutting_done c.loop-k.invariant (omega arith)
