use Rattle.std.proofs.Common.{rules, not, ◌||◌, eqb, refl, ℕ, ◌∙◌}
use Rattle.std.proofs.lemmas.Iterator.{YieldsList-from_slice}
use Rattle.std.proofs.lemmas.Iterator.Search.{any_from_yields_List}
use Rattle.std.proofs.lemmas.List.Recursion.{same_from_clauses}
use Rattle.std.specs.List.{list_any}
use borrow.Author.Tests.{tests}
use Rattle.edit.specs.Edits.{any_flag}
use Rattle.joins.proofs.splitting.any_flag.Goals as goal

pub returns : goal.returns
unfolding any_flag
returns c =
    any_from_yields_List (λ (f : ℕ). not (eqb f 0)) _ _ c.any.result c.any.ensures.ran (YieldsList-from_slice c.args.flags.now cc) (λ x b q k. search (rules, tests))
    ∙ same_from_clauses (list_any (λ (f : ℕ). not (eqb f 0))) any_flag (λ f r. not (eqb f 0) || r) refl (λ _ _. refl) (λ _ _. refl) c.args.flags.now
