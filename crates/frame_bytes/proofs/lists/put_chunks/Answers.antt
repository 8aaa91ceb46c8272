use mathlib.Core.Path.{refl}
use Prim.Native.Nat.{◌+◌}
use native.Mathlib.Omega.{arith}
use lib.ListN.{get_or}
use Rattle.edit.proofs.Sums.{sum-at}
use Rattle.frame_bytes.proofs.Pasted.{fill_none}
use Rattle.frame_bytes.proofs.Listed.{chunk_scalar, chunks_room, chunks_more, chunks_done}
use Rattle.frame_bytes.proofs.lists.put_chunks.Goals as goal

pub loop-len-init : goal.loop-len-init
loop-len-init c = (omega arith, c.requires.1, fill_none _ _)

pub overflow_cast-end : goal.overflow_cast-end
overflow_cast-end c = omega (arith, c.type_inv.lens c.loop-len.len-index)

pub overflow_add-end : goal.overflow_add-end
overflow_add-end c = omega (arith, sum-at c.args.lens.now c.loop-len.len-index c.loop-len-test.true)

pub slice_bounds-put_chunk-count : goal.slice_bounds-put_chunk-count
slice_bounds-put_chunk-count c = omega (arith, sum-at c.args.lens.now c.loop-len.len-index c.loop-len-test.true)

pub slice_bounds-put_chunk-start : goal.slice_bounds-put_chunk-start
slice_bounds-put_chunk-start c = omega (arith, sum-at c.args.lens.now c.loop-len.len-index c.loop-len-test.true)

pub slice_bounds-put_chunk-end : goal.slice_bounds-put_chunk-end
slice_bounds-put_chunk-end c = omega (arith, sum-at c.args.lens.now c.loop-len.len-index c.loop-len-test.true)

pub put_chunk-at-requires : goal.put_chunk-at-requires
put_chunk-at-requires c = let r = chunks_room c.args.lens.now c.args.payload.now c.loop-len.len-index c.loop-len.from (c.loop-len.from + get_or c.args.lens.now c.loop-len.len-index 0) c.loop-len-test.true refl c.args.bytes.now c.loop-len.bytes c.loop-len.at.0 c.requires.0 c.loop-len.invariant.2 in
    ((chunk_scalar c.args.lens.now c.args.payload.now c.loop-len.len-index c.loop-len.from (c.loop-len.from + get_or c.args.lens.now c.loop-len.len-index 0) c.loop-len-test.true refl c.loop-len.invariant.1).0, omega arith, omega arith)

pub loop-len-preserved : goal.loop-len-preserved
loop-len-preserved c = let r = c.put_chunk-at.ensures in
    (omega (arith, sum-at c.args.lens.now c.loop-len.len-index c.loop-len-test.true), (chunk_scalar c.args.lens.now c.args.payload.now c.loop-len.len-index c.loop-len.from (c.loop-len.from + get_or c.args.lens.now c.loop-len.len-index 0) c.loop-len-test.true refl c.loop-len.invariant.1).1, rw r.1 (chunks_more c.args.lens.now c.args.payload.now c.loop-len.len-index c.loop-len.from (c.loop-len.from + get_or c.args.lens.now c.loop-len.len-index 0) c.loop-len-test.true refl c.args.bytes.now c.loop-len.bytes c.loop-len.at.0 c.requires.0 c.loop-len.invariant.2 _ c.requires.3 r.0))

pub returns : goal.returns
returns c = let a = c.args in let l = c.loop-len in chunks_done a.lens.now a.payload.now a.bytes.now l.bytes l.len-index l.from l.at.0 c.loop-len-test.false l.invariant.2
