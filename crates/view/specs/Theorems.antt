-- What is proved beside that the code meets its promises. The proofs stand in proofs/Theorems.antt.
use Rattle.std.specs.Prelude.{◌≡◌, List, ℕ}
use Rattle.promise.specs.Settled.{Settles}
use Rattle.text.specs.Answers.{paper_clamped}
use Rattle.edit.specs.declared.View.{View}
use Rattle.edit.specs.declared.Edit.{Edit}
use Rattle.view.specs.Answers.{paper_cursor_set}
use Rattle.view.specs.Calls.{UndoablePromised}
use Rattle.std.specs.Prelude.{Result, Ok, Err, Bool, true, false}
use Rattle.edit.specs.declared.Refusal.{Refusal}

-- Each public promise settles its answer.
pub record Settled : Type 0 where
  pub undoable : (b : List ℕ) (v : View) (e : Edit) (p f s : List ℕ) (x y : Result Bool Refusal) → UndoablePromised x b v e p f s → UndoablePromised y b v e p f s → x ≡ y
  pub set_cursor : Settles paper_cursor_set
  pub clamp_position : Settles paper_clamped
