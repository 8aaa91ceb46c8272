-- What is proved of the promise beside that the code meets it.
use Rattle.std.specs.Prelude.{◌≡◌}
use Rattle.edit.specs.declared.View.{View}
use Rattle.edit.specs.declared.Edit.{Edit}
use Rattle.edit.specs.Call.{Lent}
use Rattle.apply.specs.Theorems.{Exit}
use Rattle.thin.specs.Stands.{PromisedIn}

-- what is there when `apply_edit_in` returns
pub record ExitIn : Type 0 where
  pub exit : Exit
  pub view : View

-- what `apply_edit_in` promises holds of it
abbrev pub MeetsIn : ExitIn → View → Edit → Lent → Type 0
MeetsIn x v e l = PromisedIn x.exit.answer x.exit.text x.exit.payload x.exit.first x.exit.second x.view v e l

-- That promise settles all of it: two exits that meet it for the same call are the same.
abbrev pub ApplyEditInSettled : Type 0
ApplyEditInSettled = (v : View) (e : Edit) (l : Lent) (x y : ExitIn) → MeetsIn x v e l → MeetsIn y v e l → x ≡ y
