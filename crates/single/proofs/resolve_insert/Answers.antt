use mathlib.Core.Path.{refl}
use Rattle.text.specs.Text.{is_lf}
use Rattle.text.proofs.Spots.{place-within}
use Rattle.single.proofs.Resolving.{insert-resolves}
use native.Mathlib.Omega.{arith}
use borrow.Author.Rules.{rules}
use Rattle.single.proofs.resolve_insert.Goals as goal

pub end_after-end-requires : goal.end_after-end-requires
end_after-end-requires c = let a = c.args in
    let w = place-within is_lf a.text.now a.at _ c.locate-place.ensures in (omega (arith, w.0, c.requires.0), omega (arith, w.1, c.requires.0), c.requires.1)

pub overflow_cast-place : goal.overflow_cast-place
overflow_cast-place c = let a = c.args in
    let w = place-within is_lf a.text.now a.at _ c.locate-place.ensures in search (rules, w.2)

pub returns : goal.returns
returns c = let a = c.args in
    λ f s'. insert-resolves a.text.now a.payload.now f s' a.steps.now a.at _ _ _ _ _ c.locate-place.ensures c.end_after-end.ensures refl refl c.requires.2 c.put_step.ensures
