use mathlib.Core.Path.{◌≡◌, ap, ◌∙◌}
use native.Mathlib.Omega.{arith}
use lib.ListN.{drop}
use lib.Seq.{paste, paste-zero}
use Rattle.decoding.proofs.Runs.{lent_long, lent_at, paste_more}
use Rattle.decoding.proofs.widen_block.Goals as goal

pub loop-k-init : goal.loop-k-init
loop-k-init c = let a = c.args in paste-zero a.out.now a.count (drop a.start a.bytes.now)

pub loop-k-preserved : goal.loop-k-preserved
loop-k-preserved c = let l = c.loop-k in let a = c.args in let n = lent_long a.bytes.now a.start 16 c.requires.0 in
    paste_more a.out.now a.bytes.now _ a.start a.count l.k _ l.invariant (c.from.ensures ∙ lent_at a.bytes.now a.start 16 c.requires.0 l.k (omega arith)) (omega arith) (omega arith)

pub returns : goal.returns
returns c = let l = c.loop-k in let a = c.args in let n = lent_long a.bytes.now a.start 16 c.requires.0 in
    let e : l.k ≡ 16 = omega arith in l.invariant ∙ ap (paste a.out.now a.count (drop a.start a.bytes.now)) e
