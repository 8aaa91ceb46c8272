-- The sample run, made by calls.
use mathlib.Core.Path.{◌≡◌, refl, sym, ◌∙◌, ap}
use mathlib.Core.List.{List, ◌∷◌, map}
use Prim.Native.Nat.{ℕ}
use Rattle.edit.specs.Edits.{Whole}
use Rattle.edit.specs.Call.{undoable}
use Rattle.edit.specs.Runs.{Run, stop, step, edits, stages}
use Rattle.edit.specs.Demand3.{State, text, Beside, Undoable}
use Rattle.edit.specs.Examples as edit
use Rattle.edit.proofs.Undo.{alike}
use Rattle.edit.proofs.Examples.{sample-run}
use Rattle.apply.specs.Demand3.{UndoableCall}
use Rattle.apply.specs.Examples.{besides, SampleCalls}
use Rattle.apply.proofs.Demand3.{calls_exist, with_call}
use Rattle.std.specs.Prelude.{Result, Ok, Err, Bool, true, false}
use Rattle.edit.specs.declared.Refusal.{Refusal}

-- what the promises of both functions say of an edit, a call of each says: `undoable` reads no slice for an inverse
made : (s : State) (w : Whole ℕ) (u : State) (i : Whole ℕ) → Undoable s w u i → UndoableCall s w u i
unfolding undoable
made s w u i h =
    let c = calls_exist s w h.0 in
    record { beside = h.0; said = Ok true; promise = λ ox of os. sym h.2; yes = refl; call = c; accepted = with_call c u i h.1 }

same_besides : {s w : State} (r : Run Undoable s w) → besides (alike UndoableCall made r).run ≡ edit.besides r
unfolding alike made besides edit.besides
same_besides stop = refl
same_besides (step h r) = ap {B = List Beside} (λ l. h.0 ∷ l) (same_besides r)

pub sample-calls : SampleCalls
sample-calls =
    let d = alike UndoableCall made sample-run.run in
    record {
      last = sample-run.last;
      run = d.run;
      its_edits = d.same_edits ∙ sample-run.its_edits;
      its_besides = same_besides sample-run.run ∙ sample-run.its_besides;
      its_texts = ap (map text) d.same_stages ∙ sample-run.its_texts;
      room = sample-run.room;
    }
