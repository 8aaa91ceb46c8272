-- Runs of steps. A step takes a state by an edit to a state, and returns an inverse.
use Rattle.std.specs.Prelude.{List, [], ◌∷◌}

module _ {S E : Type 0} where
  -- edits one after another
  pub data Run (Step : S → E → S → E → Type 0) : S → S → Type 0 where
    stop : {s : S} → Run Step s s
    step : {s u w : S} {e i : E} → Step s e u i → Run Step u w → Run Step s w

  module _ {Step : S → E → S → E → Type 0} where
    -- the edits as they are applied, the inverses as they are returned, and the state before each edit and at the end
    unfoldable pub edits : {s w : S} → Run Step s w → List E
    edits stop = []
    edits (step {e = e} h r) = e ∷ edits r

    unfoldable pub inverses : {s w : S} → Run Step s w → List E
    inverses stop = []
    inverses (step {i = i} h r) = i ∷ inverses r

    unfoldable pub stages : {s w : S} → Run Step s w → List S
    stages (stop {s = s}) = s ∷ []
    stages (step {s = s} h r) = s ∷ stages r
