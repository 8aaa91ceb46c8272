-- A run of calls that meets the hypothesis of demand 3 of the code: the sample run of `edit`, of every kind that demand 3 names, with slices
-- for the inverse that are shorter than the named room, and longer.
use Rattle.std.specs.Prelude.{◌≡◌, List, [], ◌∷◌, map}
use Rattle.edit.specs.Runs.{Run, stop, step, edits, stages}
use Rattle.edit.specs.Demand3.{State, text, Beside, RecordRoom}
use Rattle.edit.specs.Examples.{opened, ample, sample_edits, sample_besides, sample_texts}
use Rattle.apply.specs.Demand3.{UndoableCall}

-- what each call was handed beside
unfoldable pub besides : {s w : State} → Run UndoableCall s w → List Beside
besides stop = []
besides (step h r) = h.beside ∷ besides r

pub record SampleCalls : Type 0 where
  pub last : State
  pub run : Run UndoableCall (opened (97 ∷ 98 ∷ 10 ∷ 99 ∷ [])) last
  pub its_edits : edits run ≡ sample_edits
  pub its_besides : besides run ≡ sample_besides
  pub its_texts : map text (stages run) ≡ sample_texts
  -- room to undo it with
  pub room : RecordRoom last ample
