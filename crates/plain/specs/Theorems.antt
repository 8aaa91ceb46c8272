-- What is proved beside that the code meets its promises. The proofs stand in proofs/Theorems.antt.
use Rattle.std.specs.Prelude.{Some}
use Rattle.std.specs.Prelude.{◌≡◌}
use Rattle.edit.specs.declared.Edit.{Edit}
use Rattle.plain.specs.Meanings.{meant, numbers_of}

-- The numbers that an edit is told as mean that edit: an inverse can be handed back as it came.
abbrev pub MeansTold : Type 0
MeansTold = (e : Edit) → meant (numbers_of e) ≡ Some e
