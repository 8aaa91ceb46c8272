-- What is told of a box.
use mathlib.Core.Path.{◌≡◌, refl}
use Rattle.std.specs.Prelude.{Err, Option, Some, None}
use Rattle.promise.specs.Paper.{done}
use Rattle.text.specs.declared.Position.{Position}
use Rattle.edit.specs.Call.{number_of}
use Rattle.fit.specs.declared.BoxError.{BoxError}
use Rattle.fit.specs.declared.BoxError.TheVariants as box_error
use Rattle.fit.specs.Calls.{fit_of, paper_box_fit}
use Rattle.fit.specs.Errors.{box_refusal}
use Rattle.plain.specs.Told.{not_found, found_of, told_fit}

pub fit_found : (o : Option Position) → told_fit (done (fit_of o)) ≡ found_of o
fit_found (Some p) = refl
fit_found None = refl

pub fit_refused : (e : BoxError) → told_fit (paper_box_fit (Err e)) ≡ not_found (number_of (box_refusal e))
fit_refused box_error.BadText = refl
fit_refused box_error.TooBig = refl
