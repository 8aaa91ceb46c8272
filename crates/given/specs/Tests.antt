-- Rows 2 to 4 of the table of refusals, in order, from what was found for each.
use Rattle.std.specs.Prelude.{Bool, not, List, [], ◌∷◌}
use Rattle.edit.specs.declared.Refusal.{Refusal}
use Rattle.edit.specs.declared.Refusal.TheVariants.{TooBig, TooMany, BadPayload}

abbrev pub later_tests : Bool → Bool → Bool → List (Bool × Refusal)
later_tests small few good = (not small, TooBig) ∷ (not few, TooMany) ∷ (not good, BadPayload) ∷ []
