use native.Mathlib.Omega.{arith}
use Rattle.decoding.proofs.Runs.{lent_long, lent_at, ascii_more}
use Rattle.decoding.proofs.is_block.Goals as goal

pub loop-x-preserved : goal.loop-x-preserved
loop-x-preserved c = let l = c.loop-x in let a = c.args in let n = lent_long a.bytes.now a.start 16 c.requires in
    ascii_more a.bytes.now a.start l.x-index _ l.all (lent_at a.bytes.now a.start 16 c.requires l.x-index (omega arith)) l.invariant

pub returns : goal.returns
returns c = let l = c.loop-x in let a = c.args in let n = lent_long a.bytes.now a.start 16 c.requires in λ e k h. l.invariant e k (omega arith)
