-- The proofs of specs/Theorems.antt.
use mathlib.Core.Path.{refl}
use Rattle.promise.proofs.Settled.{settled}
use Rattle.winchbarn.specs.Theorems.{Settled}

pub all_settled : Settled
all_settled = record {
  counts = settled (λ o. (o.answer, o.out)) (λ x. refl);
  changes = settled (λ o. (o.answer, o.text, o.payload, o.first, o.second)) (λ x. refl);
  changes_in = settled (λ o. let c = o.changed in ((c.answer, c.text, c.payload, c.first, c.second), o.view)) (λ x. refl);
  frames = settled (λ o. (o.answer, o.payload, o.first, o.second)) (λ x. refl);
}
