use mathlib.Core.Logic.{inl, inr}
use native.Mathlib.Omega.{arith}
use Rattle.frame_bytes.proofs.Listed.{columns-start, columns-room, columns-more, columns-done}
use Rattle.frame_bytes.proofs.lists.put_columns.Goals as goal

pub loop-i-init : goal.loop-i-init
loop-i-init c = let a = c.args in let y = c.enumerate-i-items.ensures in let z = c.zip.ensures in
    rw (c.into_iter-i-iterator.ensures.into_iter_gives, y.source, z.first) (columns-start a.cols.now a.flags.now a.bytes.now _ _ _ c.requires.0 c.requires.1 c.iter.ensures.rest z.second.0 y.count)

pub put_column-requires : goal.put_column-requires
put_column-requires c = let a = c.args in let l = c.loop-i in let d = c.in-Some.ensures.steps in
    let r = columns-room a.cols.now a.flags.now a.bytes.now l.bytes _ _ _ l.invariant c.in-Some.col.now c.in-Some.flag.now _ _ d.0.0 d.0.1 in
    (omega (arith, r.0, d.1), r.1)

pub loop-i-preserved : goal.loop-i-preserved
loop-i-preserved c = let a = c.args in let l = c.loop-i in let d = c.in-Some.ensures.steps in
    columns-more a.cols.now a.flags.now a.bytes.now l.bytes _ _ _ l.invariant c.in-Some.col.now c.in-Some.flag.now _ _ d.0.0 d.0.1 _ _ d.2 c.requires.2 (rw d.1 at c.put_column.ensures)

pub returns : goal.returns
returns c = let a = c.args in let l = c.loop-i in
    columns-done a.cols.now a.flags.now a.bytes.now l.bytes _ _ _ l.invariant (elim c.in-None.ensures.steps.0 [ inl x ↦ x.1.0 | inr y ↦ omega (arith, y.1.0, l.invariant.0) ])
