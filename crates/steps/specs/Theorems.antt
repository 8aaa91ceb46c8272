-- What is proved of steps, beside that the code meets these definitions. The proofs stand in proofs/Theorems.antt.
use mathlib.Core.Bool.{Bool}
use mathlib.Core.List.{List, map}
use mathlib.Core.Path.{◌≡◌}
use Prim.Native.Nat.{ℕ, ◌+◌, ◌≤◌}
use lib.ListN.{length}
use Rattle.text.specs.Rows.{last_row}
use Rattle.edit.specs.declared.Edit.{Edit}
use Rattle.edit.specs.Edits.{Made, edited_by}
use Rattle.steps.specs.Steps.{Step, step, woven, cut_of, passed, breaks_gone, breaks_come}
use Rattle.steps.specs.Kinds.{steps_by, makes}

-- The steps of an edit, taken, leave the edit's text.
abbrev pub StepsText : Type 1
StepsText =
    (A : Type 0) (lf sp : A → Bool) (made : Made A) (e : Edit) (x : List A) (f s : List ℕ) (t : List A)
    → (edited_by lf sp made e x f s t).text ≡ woven (makes made e) (steps_by lf sp made e x f s t) t

-- What they give back is the payload of its inverse.
abbrev pub StepsCut : Type 1
StepsCut =
    (A : Type 0) (lf sp : A → Bool) (made : Made A) (e : Edit) (x : List A) (f s : List ℕ) (t : List A)
    → cut_of (steps_by lf sp made e x f s t) t ≡ (edited_by lf sp made e x f s t).inverse.payload

-- They pass over no more than the text.
abbrev pub StepsPassed : Type 1
StepsPassed =
    (A : Type 0) (lf sp : A → Bool) (made : Made A) (e : Edit) (x : List A) (f s : List ℕ) (t : List A)
    → passed (steps_by lf sp made e x f s t) ≤ length t

-- Whatever the steps, the rows of what they leave are those of the text, but for the LFs that go and those that come.
abbrev pub RowsWoven : Type 1
RowsWoven =
    (A : Type 0) (lf : A → Bool) (v : A) (ss : List (Step A)) (t : List A) → last_row lf (woven v ss t) + breaks_gone lf ss t ≡ last_row lf t + breaks_come lf v ss

-- Steps do the same whatever their elements carry beside: a map of the elements commutes with what they leave and with what they give back.
abbrev pub map_step : {A B : Type 0} → (A → B) → Step A → Step B
map_step f s = step s.keep s.gone s.pad s.lost (map f s.come)

abbrev pub StepsNatural : Type 1
StepsNatural =
    (A B : Type 0) (f : A → B) (v : A) (ss : List (Step A)) (t : List A)
    → (woven (f v) (map (map_step f) ss) (map f t) ≡ map f (woven v ss t)) × (cut_of (map (map_step f) ss) (map f t) ≡ map f (cut_of ss t))
