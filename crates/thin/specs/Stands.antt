-- The call on a view that is lent: what `applied` says, and the record as it then stands.
use Rattle.std.specs.Prelude.{◌≡◌, List, ℕ}
use Rattle.promise.specs.Paper.{Paper, done, refused}
use Rattle.edit.specs.declared.View.{View}
use Rattle.edit.specs.declared.Edit.{Edit}
use Rattle.edit.specs.declared.Applied.{Applied}
use Rattle.edit.specs.Call.{paper, Lent, Outcome, outcome, applied}
use Rattle.std.specs.Prelude.{Result, Ok, Err}
use Rattle.edit.specs.declared.Refusal.{Refusal}

pub record Updated : Type 0 where
  pub outcome : Outcome
  pub view : View

abbrev pub updated : Outcome → View → Updated
updated o v = record { outcome = o; view = v }

-- "one thin public entry takes the record lent and updates it where it stands"; a refusal changes nothing that was lent
abbrev pub view_after : View → Paper Applied → View
view_after v (done a) = a.view
view_after v (refused n k) = v

abbrev pub applied_in : View → Edit → Lent → Updated
applied_in v e l = updated (applied v e l) (view_after v (applied v e l).answer)

-- What `apply_edit_in` promises: what `apply_edit` does, and the record at exit.
abbrev pub PromisedIn : Result Applied Refusal → List ℕ → List ℕ → List ℕ → List ℕ → View → View → Edit → Lent → Type 0
PromisedIn r text payload first second view v e l = updated (outcome (paper r) text payload first second) view ≡ applied_in v e l
