use mathlib.Core.Path.{◌≡◌, ap, ◌∙◌}
use mathlib.Core.List.{List}
use Prim.Native.Nat.{ℕ, ◌-◌}
use borrow.Author.Rules.{rules}
use borrow.Author.Tests.{tests}
use lib.ListN.{length, take, drop}
use Rattle.std.proofs.lemmas.Iterator.{YieldsList-from_slice, IsFirst-from_position}
use Rattle.promise.proofs.Lists.{tail_whole}
use Rattle.text.proofs.Scans.{run_found}
use Rattle.text.specs.Rows.{row_len}
use Rattle.text.specs.Text.{is_lf}
use Rattle.rows.proofs.run_len.Goals as goal

pub returns : goal.returns
returns c = let s = c.args.text.now in let t = take (length s - c.args.start.0) (drop c.args.start.0 s) in
    c.unwrap_or.ensures
    ∙ run_found t c.position.result (IsFirst-from_position _ _ _ (λ x. x ≡ 10) (λ x. x ≡ 10 → ⊥) c.position.ensures.ran (YieldsList-from_slice t c.iter.ensures.rest) (λ x q k. search (rules, tests)) (λ x q k. search (rules, tests)))
    ∙ ap (λ (t : List ℕ). row_len is_lf t 0) (tail_whole s c.args.start.0)
