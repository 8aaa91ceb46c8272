-- Demand 3: a run of calls read as a run of edits of texts, and runs of edits of texts carried out by calls.
use mathlib.Core.Path.{◌≡◌, refl, sym, ◌∙◌, ap, ap₂, subst}
use mathlib.Core.List.{List, [], ◌∷◌, map, reverse}
use Prim.Native.Nat.{ℕ}
use lib.ListN.{length}
use Rattle.edit.specs.Edits.{Whole}
use Rattle.edit.specs.Runs.{Run, stop, step, edits, inverses, stages}
use Rattle.edit.specs.Demand3.{State, text, Accepted, Undoable, Undone, Demand3}
use Rattle.edit.proofs.Accepted.{Ok, Step}
use Rattle.edit.proofs.Calls.{Held, next, step-accepted, next_text, next_held, Called, with_called, said_undoable}
use Rattle.edit.proofs.Undo.{Good, undone_texts}

-- ---- calls carry out a run of edits of texts

pub record Carried (n : ℕ) {t v : List ℕ} (q : Run (Step n) t v) (s : State) : Type 0 where
  pub end : State
  pub held : Held n end
  pub ends : text end ≡ v
  pub run : Run Accepted s end
  pub same_edits : edits run ≡ edits q
  pub same_inverses : inverses run ≡ inverses q
  pub same_texts : map text (stages run) ≡ stages q

carried : (n : ℕ) {t v : List ℕ} (q : Run (Step n) t v) (s : State) → Held n s → text s ≡ t → Carried n q s
unfolding edits inverses stages
carried n stop s k e = record { end = s; held = k; ends = e; run = stop; same_edits = refl; same_inverses = refl; same_texts = ap {B = List (List ℕ)} (λ l. l ∷ []) e }
carried n (step {s = t} {u = u} {e = w} {i = i} h q) s k e =
    let g : Step n (text s) w u i = rw e h in
    let c = carried n q (next s w) (next_held n s w k g.fine) (next_text s w ∙ g.text) in
    record {
      end = c.end;
      held = c.held;
      ends = c.ends;
      run = step (step-accepted n s w u i k g) c.run;
      same_edits = ap {B = List (Whole ℕ)} (λ l. w ∷ l) c.same_edits;
      same_inverses = ap {B = List (Whole ℕ)} (λ l. i ∷ l) c.same_inverses;
      same_texts = ap₂ {C = List (List ℕ)} (λ a l. a ∷ l) e c.same_texts;
    }

-- ---- a run of calls is one of edits of texts

called-step : (n : ℕ) {s : State} {w : Whole ℕ} {u : State} {i : Whole ℕ} → length s.buffer ≡ n → Called s w u i → Held n u × Step n (text s) w (text u) i
called-step n {s} {w} {u} {i} e c =
    let m = length s.buffer in
    subst (λ (k : ℕ). Held k u × Step k (text s) w (text u) i) e
    (subst (λ (x : State). Held m x × Step m (text s) w (text x) i) (sym c.state)
    (next_held m s w c.before c.fine, record { fine = c.fine; text = sym (next_text s w); inverse = sym c.inverse }))

pub record Read (n : ℕ) {s u : State} (r : Run Undoable s u) : Type 0 where
  pub held : Held n u
  pub run : Run (Good n) (text s) (text u)
  pub same_inverses : inverses run ≡ inverses r
  pub same_texts : stages run ≡ map text (stages r)

read : (n : ℕ) {s u : State} (r : Run Undoable s u) → Held n s → Read n r
unfolding inverses stages
read n stop k = record { held = k; run = stop; same_inverses = refl; same_texts = refl }
read n (step {s = s} {u = u} {e = w} {i = i} h r) k =
    let c = with_called h.0 s w u i h.1 in
    let g = called-step n k.long c in
    let d = read n r g.0 in
    record {
      held = d.held;
      run = step (g.1, said_undoable s w h.0 h.2) d.run;
      same_inverses = ap {B = List (Whole ℕ)} (λ l. i ∷ l) d.same_inverses;
      same_texts = ap {B = List (List ℕ)} (λ l. text s ∷ l) d.same_texts;
    }

-- ---- the theorem

-- the inverses that a run of inverses gave, last first, from y
pub record Again {s u x v : State} (r : Run Undoable s u) (back : Run Accepted x v) (y : State) : Type 0 where
  pub final : State
  pub again : Run Accepted y final
  pub again_edits : edits again ≡ reverse (inverses back)
  pub again_texts : map text (stages again) ≡ map text (stages r)

-- the inverses of a run last first, from any state that has the text which the run ended with, and theirs from any that has the text
-- which it began with
pub record Reversed (n : ℕ) {s u : State} (r : Run Undoable s u) (x : State) : Type 0 where
  pub origin : State
  pub held : Held n origin
  pub ends : text origin ≡ text s
  pub back : Run Accepted x origin
  pub back_edits : edits back ≡ reverse (inverses r)
  pub back_texts : map text (stages back) ≡ reverse (map text (stages r))
  pub redo : (y : State) → Held n y → text y ≡ text s → Again r back y

pub reversed : (n : ℕ) {s u : State} (r : Run Undoable s u) → Held n s → (x : State) → Held n x → text x ≡ text u → Reversed n r x
reversed n {s} r k x h e =
    let d = read n r k in
    let t = undone_texts n d.run in
    let b = carried n t.back x h e in
    record {
      origin = b.end;
      held = b.held;
      ends = b.ends;
      back = b.run;
      back_edits = b.same_edits ∙ t.back_edits ∙ ap reverse d.same_inverses;
      back_texts = b.same_texts ∙ t.back_stages ∙ ap reverse d.same_texts;
      redo = λ y g q.
          let a = carried n t.again y g q in
          record {
            final = a.end;
            again = a.run;
            again_edits = a.same_edits ∙ t.again_edits ∙ ap reverse (sym b.same_inverses);
            again_texts = a.same_texts ∙ t.again_stages ∙ d.same_texts;
          };
    }

held-undone : (n : ℕ) {s u : State} (r : Run Undoable s u) → Held n s → Undone Accepted r
held-undone n {s} {u} r k =
    let b = reversed n r k u (read n r k).held refl in
    let a = b.redo b.origin b.held b.ends in
    record {
      origin = b.origin;
      back = b.back;
      back_edits = b.back_edits;
      back_texts = b.back_texts;
      final = a.final;
      again = a.again;
      again_edits = a.again_edits;
      again_texts = a.again_texts;
    }

-- a run from a text that a buffer admits ends with one
starts-ok : (n : ℕ) {t v : List ℕ} → Run (Step n) t v → Ok n v → Ok n t
starts-ok n stop h = h
starts-ok n (step g r) h = g.fine.textual

pub run-held : (n : ℕ) {s u : State} → Run Undoable s u → Held n s → Held n u
run-held n r k = (read n r k).held

pub run_ok : (n : ℕ) {s u : State} → Run Undoable s u → Held n s → Ok n (text s) → Ok n (text u)
run_ok n r k h = starts-ok n (undone_texts n (read n r k).run).back h

-- with no edit there is nothing to undo; with one, the first was accepted, and its state was held
pub demand3 : Demand3
unfolding edits inverses stages
demand3 s u stop = record { origin = s; back = stop; back_edits = refl; back_texts = refl; final = s; again = stop; again_edits = refl; again_texts = refl }
demand3 s u (step {u = v} {e = w} {i = i} h r) = held-undone (length s.buffer) (step h r) (with_called h.0 s w v i h.1).before
