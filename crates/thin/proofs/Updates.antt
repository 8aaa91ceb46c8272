-- The lent record after a call, from the call's answer.
use mathlib.Core.Path.{◌≡◌, ◌∙◌, ap, ap₂}
use mathlib.Core.List.{List}
use Prim.Native.Nat.{ℕ}
use Rattle.edit.specs.declared.View.{View}
use Rattle.edit.specs.declared.Edit.{Edit}
use Rattle.edit.specs.Call.{paper, Lent, Outcome, outcome, applied}
use Rattle.thin.specs.Stands.{Updated, updated, view_after, applied_in}
use Rattle.std.specs.Prelude.{Result, Ok, Err}
use Rattle.edit.specs.declared.Refusal.{Refusal}
use Rattle.edit.specs.declared.Applied.{Applied}

pub updates : (v : View) (e : Edit) (l : Lent) (r : Result Applied Refusal) (w : View) (t p f s : List ℕ) → outcome (paper r) t p f s ≡ applied v e l → w ≡ view_after v (paper r)
    → updated (outcome (paper r) t p f s) w ≡ applied_in v e l
updates v e l r w t p f s h k = ap₂ {C = Updated} updated h (k ∙ ap (λ (o : Outcome). view_after v o.answer) h)
