use Prim.Native.Nat.{◌-◌}
use native.Mathlib.Omega.{arith}
use Rattle.weave.proofs.Commits.{cleared, grown}
use Rattle.weave.proofs.Pieces.{part-filled}
use borrow.Author.Rules.{rules}
use Rattle.weave.proofs.commit.Goals as goal

pub returns-then-size-used : goal.returns-then-size-used
returns-then-size-used c =
    let a = c.args in let w = c.weave in let E = w.ensures in
    cleared a.value a.text.now w.new.text a.used a.size a.n a.steps.now a.payload.now c.requires.3 c.requires.4 c.requires.5 (search rules) (record { front = E.front; mid = E.woven; back = E.behind }) _ c.if-size-used.true (part-filled w.new.text _ a.size a.used (a.used - a.size) 0 (omega (arith, c.if-size-used.true)) (omega arith) (c.fill.ensures.after (λ y h. search rules)))

pub returns-else-size-used : goal.returns-else-size-used
returns-else-size-used c =
    let a = c.args in let w = c.weave in let E = w.ensures in
    grown a.value a.text.now w.new.text a.used a.size a.n a.steps.now a.payload.now c.requires.3 c.requires.4 c.requires.5 (search rules) (record { front = E.front; mid = E.woven; back = E.behind }) c.if-size-used.false
