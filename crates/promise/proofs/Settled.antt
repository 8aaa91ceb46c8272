-- The law that every public promise cites.
use mathlib.Core.Path.{◌≡◌, sym, ap, ◌∙◌}
use Rattle.promise.specs.Settled.{Settles}

-- A promise settles its outcome where the outcome can be read back from its meaning.
pub settled : {A B : Type 0} {meaning : A → B} (back : B → A) → ((x : A) → back (meaning x) ≡ x) → Settles meaning
settled back h m x y p q = sym (h x) ∙ ap back (p ∙ sym q) ∙ h y
