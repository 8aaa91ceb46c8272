-- The answer of an accepted edit, from what was planned.
use Prim.Native.Nat.{◌+◌, ◌%◌, ◌^◌}
use Rattle.text.specs.declared.Position.{Position}
use Rattle.edit.specs.declared.View.{View}
use Rattle.edit.specs.declared.Edit.{Edit}
use Rattle.edit.specs.declared.Plan.{Plan}
use Rattle.edit.specs.declared.Applied.{Applied}

-- "Each accepted edit, even one that changes nothing, adds one to a 64-bit change counter that wraps."
abbrev pub done_as : View → Plan → Position → Edit → Applied
done_as v p cursor inverse = record {
  view = record { used = p.used; cursor = cursor; changes = (v.changes + 1) % 2 ^ 64 };
  inverse = inverse;
  payload = p.payload;
  first = p.first;
  second = p.second;
}
