use Rattle.std.proofs.Common.{ℕ, List, rules, take, length, leb, ap, sym, ◌∙◌}
use Rattle.std.proofs.lemmas.Iterator.{YieldsList-from_take}
use Rattle.std.proofs.lemmas.Iterator.Consumers.{YieldsList-at}
use Rattle.std.proofs.lemmas.Iterator.Search.{all_from_yields_List}
use Rattle.std.proofs.lemmas.Iterator.Splits.{YieldsList-from_slice_split}
use borrow.Author.Tests.{tests}
use Rattle.text.specs.Rows.{lines}
use Rattle.text.specs.Text.{is_lf}
use Rattle.edit.specs.Refusals.{wide}
use Rattle.view.proofs.Wides.{wide_parts, wide-zero}
use Rattle.view.proofs.undo.rows_wide.Goals as goal

pub returns-then-least-eq0 : goal.returns-then-least-eq0
returns-then-least-eq0 c = let a = c.args in wide-zero (take a.count (lines is_lf a.text.now)) ∙ ap (λ (n : ℕ). wide n (take a.count (lines is_lf a.text.now))) (sym c.if-least-eq0.true)

pub returns : goal.returns
returns c =
    let a = c.args in
    all_from_yields_List (λ (s : List ℕ). leb a.left.0 (length s)) _ _ c.all.result c.all.ensures.ran
    (YieldsList-from_take a.count
    (YieldsList-at c.take.ensures.source
    (YieldsList-from_slice_split _ is_lf a.text.now c.split.ensures.rest c.split.ensures.done c.split.ensures.closure (λ x b q k. search (rules, tests))))
    c.take.ensures.count)
    (λ x b q k. search (rules, tests))
    ∙ wide_parts a.left.0 a.count a.text.now
