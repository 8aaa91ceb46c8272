use mathlib.Core.Path.{◌≡◌, refl, ap, ◌∙◌}
use Prim.Native.Nat.{◌+◌}
use native.Mathlib.Omega.{arith}
use lib.ListN.{take, length-set}
use lib.Seq.{paste, paste-zero}
use Rattle.splice.proofs.Moves.{paste-step}
use Rattle.feed.proofs.Holding.{held-paste}
use borrow.Author.Rules.{rules}
use Rattle.feed.proofs.hold.Goals as goal

pub loop-i-init : goal.loop-i-init
loop-i-init c = (refl, paste-zero _ c.args.pending c.args.bytes.now)

pub loop-i-preserved : goal.loop-i-preserved
loop-i-preserved c = let a = c.args in let l = c.loop-i in
    (simp length-set (omega arith), paste-step _ a.pending _ l.i _ l.invariant.1 (search rules) (search rules))

pub returns : goal.returns
returns c = let a = c.args in let l = c.loop-i in let n = c.min-count in
    let z : l.i ≡ n.result = omega arith in
    (omega arith, ap (take (a.pending + n.result)) (l.invariant.1 ∙ ap (paste a.line.now a.pending a.bytes.now) z) ∙ held-paste a.line.now a.bytes.now a.pending (search rules) (search rules) n.result n.ensures)
