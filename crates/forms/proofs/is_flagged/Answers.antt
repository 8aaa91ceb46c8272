use mathlib.Core.Path.{sym}
use Prim.Native.Nat.{ℕ, ◌≤◌, ◌<◌}
use borrow.Author.Rules.{rules}
use borrow.Author.Tests.{tests}
use Rattle.std.proofs.lemmas.Iterator.{cases_from_all}
use Rattle.frame.proofs.Items.{flagged-part}
use Rattle.forms.proofs.Flags.{flags_come, flagged_by}
use Rattle.forms.proofs.is_flagged.Goals as goal

pub returns-then-items-ne0 : goal.returns-then-items-ne0
returns-then-items-ne0 c = sym (flagged-part c.args.items.now c.if-items-ne0.true)

pub returns : goal.returns
returns c = let s = c.args.items.now in
    let y = flags_come s _ c.chunks_exact.ensures.rest c.chunks_exact.ensures.size in
    flagged_by s _ c.if-items-ne0.false (cases_from_all _ _ _ (λ (x : ℕ). x ≤ 1) (λ (x : ℕ). 1 < x) c.all.ensures.ran y (λ x q k. search (rules, tests)) (λ x q k. search (rules, tests)))
