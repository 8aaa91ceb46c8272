-- A mark over an edit that the call accepts, as the worker finds it: `carried_over` of shift has no refusals left to look for.
use Rattle.std.specs.Prelude.{List, ℕ}
use Rattle.edit.specs.declared.Edit.{Edit}
use Rattle.select.specs.declared.Sel.{Sel}
use Rattle.shift.specs.Answers.{Followed, to, dropped}
use Rattle.shift.specs.Call.{carried_over}

unfoldable pub carried_mark : List ℕ → Edit → List ℕ → List ℕ → Followed Sel → Followed Sel
carried_mark t e x f (to m) = carried_over t e x f m
carried_mark t e x f dropped = dropped
