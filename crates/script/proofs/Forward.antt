-- The lines of any script: a run of undoable calls, and what is printed.
use mathlib.Core.Path.{◌≡◌, refl, sym, ◌∙◌, ap, subst}
use mathlib.Core.Bool.{Bool, true, false, cond}
use mathlib.Core.List.{List, [], ◌∷◌, ◌++◌, map, append_assoc}
use Prim.Native.Nat.{ℕ}
use native.Mathlib.Omega.{arith}
use lib.Dec.{eqb}
use lib.ListN.{length}
use Rattle.promise.specs.Paper.{Paper, done, refused}
use Rattle.promise.proofs.Bools.{both, clash}
use Rattle.text.specs.Rows.{Line}
use Rattle.edit.specs.Call.{undoable}
use Rattle.edit.specs.Runs.{Run, stop, step as then, inverses, stages}
use Rattle.edit.specs.Demand3.{State as Core, text, Undoable}
use Rattle.edit.proofs.Accepted.{Ok}
use Rattle.edit.proofs.Calls.{Held}
use Rattle.edit.proofs.Demand3.{run-held, run_ok}
use Rattle.hexline.specs.Digits.{hexed}
use Rattle.hexline.proofs.Breaks.{hexed-plain}
use Rattle.hexline.proofs.Zeros.{hexed-zero}
use Rattle.frame.specs.Format.{edit, frame_bytes}
use Rattle.frame.specs.Reads.{frame_read}
use Rattle.loading.specs.States.{State, text_in, buffer_limit}
use Rattle.loading.specs.Loads.{stepped, refuses}
use Rattle.step.specs.Steps.{lent_to, step, ending}
use Rattle.step.proofs.Framing.{core}
use Rattle.step.proofs.Callings.{lined, undoable-called}
use Rattle.step.proofs.Ways.{Same, Edits, Goes, edits, loads, keeps, refuses-by, line-goes}
use Rattle.feed.specs.Scripts.{line_step, run}
use Rattle.script.specs.Undo.{script, starts, starting, accepted, inverses_in, texts_from, yes, says_yes, undoable_from}
use Rattle.script.proofs.Lines.{Plains, none, more, both-plain, script-append, printed-more}
use Rattle.script.proofs.Openings.{Fit, text-ok}
use Rattle.script.proofs.Printings.{inverses-append, accepted-plain, zero_starts, nothing_starts, byte_starts}

-- a line with its LF, or what the end of the script leaves
pub row_goes : (s : State) (r : Line ℕ) → Goes s r.body (line_step s r)
unfolding line_step
row_goes s r = go (eqb (length r.after) 0) (eqb (length r.body) 0)
  where
    same : Same s s
    same = record { same_core = refl; still_sound = λ h. h }

    go : (a b : Bool) → Goes s r.body (cond a (cond b (stepped s []) (refuses s 10)) (step s r.body))
    go true true = keeps same refl
    go true false = refuses-by same 10 (omega arith) refl
    go false b = line-goes s r.body

-- all lines from a state on: the edits that are accepted go from `start`, the text's part once a text frame is loaded, to the end
pub record Ran (s : State) (rs : List (Line ℕ)) : Type 0 where
  pub start : Core
  pub held : Held buffer_limit start
  pub ok : Ok buffer_limit (text start)
  pub final : State
  pub taken : Run Undoable start (core final)
  pub begun : s.place.sound ≡ true → start ≡ core s
  pub texts : texts_from s rs ≡ map text (stages taken)
  pub printed : List (List ℕ)
  pub plain : Plains printed
  pub prints : run s rs ≡ script printed ++ ending final
  pub finds : inverses_in printed ≡ map lined (inverses taken)

module _ (s : State) (r : Line ℕ) (rs : List (Line ℕ)) where
  -- a line that is no accepted edit, and prints nothing or a refusal
  stays : (os : List (List ℕ)) → Plains os → (line_step s r).printed ≡ script os → inverses_in os ≡ [] → starts 48 (line_step s r).printed ≡ false
      → (s.place.sound ≡ true → Same s (line_step s r).state) → Ran (line_step s r).state rs → Ran s (r ∷ rs)
  unfolding texts_from run
  stays os p e n b h d = record {
    start = d.start;
    held = d.held;
    ok = d.ok;
    final = d.final;
    taken = d.taken;
    begun = λ q. d.begun ((h q).still_sound q) ∙ (h q).same_core;
    texts = rw b d.texts;
    printed = os ++ d.printed;
    plain = both-plain p d.plain;
    prints = rw (e, d.prints, script-append os d.printed, append_assoc);
    finds = inverses-append os d.printed ∙ rw n d.finds;
  }

  undoes : (x : Edits s r.body (line_step s r)) → says_yes s (frame_read r.body) ≡ true → Undoable (core s) x.edit_read_lem (core (line_step s r).state) x.inverse
  unfolding says_yes yes
  undoes x y = undoable-called s x.edit_read_lem (go (undoable s.view x.edit_read_lem.edit (lent_to s x.edit_read_lem)) refl (rw x.reads at y)) _ _ x.takes
    where
      go : (p : Paper Bool) → undoable s.view x.edit_read_lem.edit (lent_to s x.edit_read_lem) ≡ p → yes p ≡ true → undoable s.view x.edit_read_lem.edit (lent_to s x.edit_read_lem) ≡ done true
      go (done b) e q = e ∙ ap done q
      go (refused n k) e q = absurd (clash q refl)

  accepted-line : (x : Edits s r.body (line_step s r)) → (line_step s r).printed ≡ script (accepted (lined x.inverse) ∷ [])
  unfolding script
  accepted-line x = x.prints ∙ rw (hexed-zero (frame_bytes (edit x.inverse)))

  pub accepted-starts : (x : Edits s r.body (line_step s r)) → starts 48 (line_step s r).printed ≡ true
  unfolding script
  accepted-starts x = ap (starts 48) (accepted-line x) ∙ zero_starts (lined x.inverse ++ (10 ∷ []))

  takes : (x : Edits s r.body (line_step s r)) → Fit s → Undoable (core s) x.edit_read_lem (core (line_step s r).state) x.inverse → Ran (line_step s r).state rs → Ran s (r ∷ rs)
  unfolding texts_from run stages inverses starting starts
  takes x f h d =
      let k : Undoable (core s) x.edit_read_lem d.start x.inverse = rw (d.begun x.sound) h in
      record {
        start = core s;
        held = f.held;
        ok = f.ok;
        final = d.final;
        taken = then k d.taken;
        begun = λ q. refl;
        texts = rw (accepted-starts x) (ap {B = List (List ℕ)} (λ ts. text_in s ∷ ts) d.texts);
        printed = accepted (lined x.inverse) ∷ d.printed;
        plain = more (accepted-plain (frame_bytes (edit x.inverse))) d.plain;
        prints = printed-more (accepted (lined x.inverse)) (line_step s r).printed (run (line_step s r).state rs) (ending d.final) d.printed (accepted-line x) d.prints;
        finds = ap {B = List (List ℕ)} (λ is. lined x.inverse ∷ is) d.finds;
      }

  abbrev Next : Type 0
  Next = Fit (line_step s r).state → undoable_from (line_step s r).state rs ≡ true → Ran (line_step s r).state rs

  ran_on : Goes s r.body (line_step s r) → Fit s → undoable_from s (r ∷ rs) ≡ true → Next → Ran s (r ∷ rs)
  unfolding undoable_from script starting hexed
  ran_on g f u next = go g
    where
      later : undoable_from (line_step s r).state rs ≡ true
      later = (both (cond (starts 48 (line_step s r).printed) (says_yes s (frame_read r.body)) true) (undoable_from (line_step s r).state rs) u).1

      here : cond (starts 48 (line_step s r).printed) (says_yes s (frame_read r.body)) true ≡ true
      here = (both (cond (starts 48 (line_step s r).printed) (says_yes s (frame_read r.body)) true) (undoable_from (line_step s r).state rs) u).0

      same_fit : Same s (line_step s r).state → Fit (line_step s r).state
      same_fit h =
          record { held = subst (Held buffer_limit) (sym h.same_core) f.held; ok = subst (λ (c : Core). Ok buffer_limit (text c)) (sym h.same_core) f.ok }

      go : Goes s r.body (line_step s r) → Ran s (r ∷ rs)
      go (edits x) =
          let h = undoes x (rw (accepted-starts x) at here) in
          takes x f h (next (record { held = run-held buffer_limit (then h stop) f.held; ok = run_ok buffer_limit (then h stop) f.held f.ok }) later)
      go (loads x) =
          let n : length s.buffer ≡ buffer_limit = f.held.long in
          let k : Fit (line_step s r).state = record { held = subst (λ (m : ℕ). Held m (core (line_step s r).state)) n x.leaves.held; ok = rw x.leaves.text (text-ok x.chars_read x.admitted (omega (arith, x.fits))) } in
          stays [] none x.leaves.prints refl (rw x.leaves.prints nothing_starts) (λ q. absurd (clash q x.first)) (next k later)
      go (keeps h p) = stays [] none p refl (rw p nothing_starts) (λ q. h) (next (same_fit h) later)
      go (refuses-by h n k p) =
          let b : starts 48 (hexed (n ∷ [])) ≡ false = byte_starts n [] k in
          stays (hexed (n ∷ []) ∷ []) (more (hexed-plain (n ∷ [])) none) p (rw b) (rw p (byte_starts n (10 ∷ []) k)) (λ q. h) (next (same_fit h) later)

pub ran : (s : State) (rs : List (Line ℕ)) → Fit s → undoable_from s rs ≡ true → Ran s rs
unfolding texts_from run stages inverses script starting
ran s [] f u = record {
  start = core s;
  held = f.held;
  ok = f.ok;
  final = s;
  taken = stop;
  begun = λ h. refl;
  texts = refl;
  printed = [];
  plain = none;
  prints = refl;
  finds = refl;
}
ran s (r ∷ rs) f u = ran_on s r rs (row_goes s r) f u (λ g v. ran (line_step s r).state rs g v)
