-- What is proved beside that the code meets its promises. The proofs stand in proofs/Theorems.antt.
use Rattle.std.specs.Prelude.{List, ℕ}
use Rattle.promise.specs.Settled.{Settles}
use Rattle.plain.specs.declared.Change.{Change}
use Rattle.plain.specs.declared.Count.{Count}
use Rattle.plain.specs.declared.EditLine.{EditLine}
use Rattle.edit.specs.declared.View.{View}
use Rattle.winchbarn.specs.Calls.{counted, changed, changed_in, framed}

-- The promises of the functions that write settle the answer and every slice that was lent to be written. Those of the others are
-- equations for the answer itself.
pub record Settled : Type 0 where
  pub counts : Settles {A = Count × List ℕ} (λ o. counted o.0 o.1)
  pub changes : Settles {A = Change × List ℕ × List ℕ × List ℕ × List ℕ} (λ o. changed o.0 o.1 o.2 o.3 o.4)
  pub changes_in : Settles {A = (Change × List ℕ × List ℕ × List ℕ × List ℕ) × View} (λ o. changed_in (changed o.0.0 o.0.1 o.0.2 o.0.3 o.0.4) o.1)
  pub frames : Settles {A = EditLine × List ℕ × List ℕ × List ℕ} (λ o. framed o.0 o.1 o.2 o.3)
