use Rattle.blocks.proofs.Putting.{putting_none, splice_asked, open_asked, start-limit, putting_next, chunk_end, putting_done}
use native.Mathlib.Omega.{arith}
use Rattle.blocks.proofs.put_rows.Goals as goal

pub loop-k-init : goal.loop-k-init
loop-k-init c = let a = c.args in putting_none a.text.now a.used a.at.row.0 a.at.col.0 a.payload.now a.lens.now a.pads.now _ c.requires.0 c.requires.5 c.requires.1

pub put_splice-put-requires : goal.put_splice-put-requires
put_splice-put-requires c = splice_asked c.loop-k.invariant (omega arith) c.requires.4 c.requires.6 c.requires.8

pub slice_bounds-open_padded-end : goal.slice_bounds-open_padded-end
slice_bounds-open_padded-end c = chunk_end c.loop-k.invariant (omega arith) c.requires.4

pub open_padded-requires : goal.open_padded-requires
open_padded-requires c = open_asked c.loop-k.invariant (omega arith) c.requires.4 c.requires.6 c.requires.8 c.requires.7 c.put_splice-put.result c.put_splice-put.ensures

pub overflow_add-start : goal.overflow_add-start
overflow_add-start c = omega (arith, start-limit c.loop-k.invariant (omega arith) c.requires.4 c.requires.6 c.requires.8 c.requires.7 c.put_splice-put.result c.put_splice-put.ensures, c.type_inv.lens c.loop-k.k)

pub overflow_add-start-in-loop-k : goal.overflow_add-start-in-loop-k
overflow_add-start-in-loop-k c = omega (arith, start-limit c.loop-k.invariant (omega arith) c.requires.4 c.requires.6 c.requires.8 c.requires.7 c.put_splice-put.result c.put_splice-put.ensures, c.type_inv.lens c.loop-k.k)

pub overflow_add-start-in-loop-k-2 : goal.overflow_add-start-in-loop-k-2
overflow_add-start-in-loop-k-2 c = omega (arith, start-limit c.loop-k.invariant (omega arith) c.requires.4 c.requires.6 c.requires.8 c.requires.7 c.put_splice-put.result c.put_splice-put.ensures, c.type_inv.lens c.loop-k.k)

pub loop-k-preserved : goal.loop-k-preserved
loop-k-preserved c = putting_next c.loop-k.invariant (omega arith) c.requires.4 c.requires.6 c.requires.8 c.requires.7 c.put_splice-put.result c.put_splice-put.ensures _ c.open_padded.ensures c.requires.9

pub returns : goal.returns
returns c = putting_done c.loop-k.invariant (omega arith)
