-- Every call exists; and a run of calls is a run of what they promise, and back.
use mathlib.Core.Path.{◌≡◌, sym, ◌∙◌, ap}
use mathlib.Core.List.{List, map, reverse}
use Prim.Native.Nat.{ℕ}
use Rattle.promise.specs.Paper.{done}
use Rattle.edit.specs.declared.Applied.{Applied}
use Rattle.edit.specs.Edits.{Whole}
use Rattle.edit.specs.Call.{paper, Outcome}
use Rattle.edit.specs.Demand3.{State, text, Beside, view_at, lent_at, called, after, returned, AcceptedWith, Accepted, Undoable}
use Rattle.edit.proofs.Calls.{promise_met}
use Rattle.edit.proofs.Demand3.{demand3}
use Rattle.edit.proofs.Undo.{alike}
use Rattle.apply.specs.Demand3.{Call, CallsExist, left, handed, AcceptedCall, AcceptedCalls, UndoableCall, CodeDemand3}
use Rattle.std.specs.Prelude.{Result, Ok, Err}
use Rattle.edit.specs.declared.Refusal.{Refusal}

pub calls_exist : CallsExist
calls_exist s w o =
    let c = called s w o in
    let r = promise_met (view_at s o) w.edit (lent_at s w o) in
    record { answer = r.0; text = c.text; payload = c.payload; first = c.first; second = c.second; promise = r.1 }

-- an answer that is done on paper was done
was_done : (r : Result Applied Refusal) (a : Applied) → paper r ≡ done a → r ≡ Ok a
was_done (Ok b) a e = let q : b ≡ a = cc in ap (λ (x : Applied). Ok x) q
was_done (Err w) a e = cc

module _ {s : State} {w : Whole ℕ} {o : Beside} (c : Call s w o) where
  same_answer : (called s w o).answer ≡ paper c.answer
  same_answer = sym (ap (λ (x : Outcome). x.answer) c.promise)

  same_left : (a : Applied) → after a (called s w o) ≡ left a c
  same_left a = rw (← c.promise)

  same_handed : (a : Applied) → returned a (called s w o) ≡ handed a c
  same_handed a = rw (← c.promise)

  pub called-with : (u : State) (i : Whole ℕ) → AcceptedCall c u i → AcceptedWith o s w u i
  called-with u i h = (h.0, same_answer ∙ ap paper h.1, same_left h.0 ∙ h.2, same_handed h.0 ∙ h.3)

  pub with_call : (u : State) (i : Whole ℕ) → AcceptedWith o s w u i → AcceptedCall c u i
  with_call u i h = (h.0, was_done c.answer h.0 (sym same_answer ∙ h.1), sym (same_left h.0) ∙ h.2, sym (same_handed h.0) ∙ h.3)

from_call : (s : State) (w : Whole ℕ) (u : State) (i : Whole ℕ) → UndoableCall s w u i → Undoable s w u i
from_call s w u i h =
    let o = h.beside in
    (o, called-with h.call u i h.accepted, sym (h.promise o.payload o.first o.second) ∙ ap paper h.yes)

to_call : (s : State) (w : Whole ℕ) (u : State) (i : Whole ℕ) → Accepted s w u i → AcceptedCalls s w u i
to_call s w u i h o room c = with_call c u i (h o room)

pub code_demand3 : CodeDemand3
code_demand3 s w r =
    let f = alike Undoable from_call r in
    let d = demand3 s w f.run in
    let b = alike AcceptedCalls to_call d.back in
    let a = alike AcceptedCalls to_call d.again in
    record {
      origin = d.origin;
      back = b.run;
      back_edits = b.same_edits ∙ d.back_edits ∙ ap reverse f.same_inverses;
      back_texts = ap (map text) b.same_stages ∙ d.back_texts ∙ ap (λ (l : List State). reverse (map text l)) f.same_stages;
      final = d.final;
      again = a.run;
      again_edits = a.same_edits ∙ d.again_edits ∙ ap reverse (sym b.same_inverses);
      again_texts = ap (map text) a.same_stages ∙ d.again_texts ∙ ap (map text) f.same_stages;
    }
