use mathlib.Core.Path.{◌∙◌}
use borrow.Author.Rules.{rules}
use borrow.Author.Tests.{tests}
use Rattle.std.proofs.lemmas.Iterator.{YieldsList-from_slice}
use Rattle.std.proofs.lemmas.Iterator.Search.{all_from_yields_List}
use Rattle.hexline.specs.Digits.{is_digit}
use Rattle.hexline.proofs.Pairs.{paired_even, paired_odd}
use Rattle.hexline.proofs.is_paired.Goals as goal

pub returns-then-line-eq0 : goal.returns-then-line-eq0
returns-then-line-eq0 c = let l = c.args.line.now in
    all_from_yields_List is_digit _ _ c.all.result c.all.ensures.ran (YieldsList-from_slice l c.iter.ensures.rest) (λ x b q k. search (rules, tests)) ∙ paired_even l c.if-line-eq0.true

pub returns-else-line-eq0 : goal.returns-else-line-eq0
returns-else-line-eq0 c = paired_odd c.args.line.now c.if-line-eq0.false
