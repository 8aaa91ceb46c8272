-- The refusals that the errors of the box test are.
use Rattle.edit.specs.declared.Refusal.{Refusal}
use Rattle.edit.specs.declared.Refusal.TheVariants.{BadText, TooBig}
use Rattle.fit.specs.declared.BoxError.{BoxError}
use Rattle.fit.specs.declared.BoxError.TheVariants as box_error

abbrev pub box_refusal : BoxError → Refusal
box_refusal box_error.BadText = BadText
box_refusal box_error.TooBig = TooBig
