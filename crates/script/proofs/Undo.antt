-- What a script prints takes it back through its texts, and what that prints makes them again.
use mathlib.Core.Path.{◌≡◌, sym, ◌∙◌, ap, subst}
use mathlib.Core.List.{List, map, reverse}
use Prim.Native.Nat.{ℕ}
use lib.ListN.{length, length-reverse, length-map}
use Rattle.text.specs.Rows.{lines}
use Rattle.text.specs.Text.{is_lf}
use Rattle.edit.specs.Edits.{Whole}
use Rattle.edit.specs.Runs.{Run, edits, inverses, stages}
use Rattle.edit.specs.Demand3.{State as Core, text, Accepted}
use Rattle.edit.proofs.Accepted.{Ok}
use Rattle.edit.proofs.Calls.{accepted-once}
use Rattle.edit.proofs.Demand3.{reversed, run_ok}
use Rattle.edit.proofs.Undo.{alike}
use Rattle.loading.specs.States.{text_in, buffer_limit, opening}
use Rattle.step.proofs.Framing.{core}
use Rattle.step.proofs.Callings.{lined}
use Rattle.feed.specs.Scripts.{output}
use Rattle.script.specs.Undo.{rows, last_of, inverses_in, text_line, text_line_in, undo, Undone, UndoesScripts}
use Rattle.script.proofs.Printings.{found}
use Rattle.script.proofs.Readings.{AllRead, inverses-read, reverse-read, lines-reverse}
use Rattle.script.proofs.Openings.{opening-fit, loaded_with, loads_text}
use Rattle.script.proofs.Forward.{Ran, ran}
use Rattle.script.proofs.Back.{last_stage, many, Played, played, accepts}

-- what w printed, as a script: the text t, and some inverses last first
replayed : (w t : List ℕ) (k : Ok buffer_limit t) (is : List (Whole ℕ)) → text_line_in (rows (output w)) ≡ text_line t → inverses_in (rows (output w)) ≡ map lined is → AllRead is
    → {v : Core} (r : Run Accepted (core (loaded_with t k)) v) → edits r ≡ reverse is → Played (undo w) (map lined (inverses r)) (map text (stages r))
unfolding undo
replayed w t k is e f a r q = rw (e, f, lines-reverse is, ← q) (played t k r (rw q (reverse-read a)))

-- as many inverses as edits, which were inverses
as_many : {c v : Core} (r : Run Accepted c v) (is : List (Whole ℕ)) → edits r ≡ reverse is → length (map lined (inverses r)) ≡ length (map lined is)
as_many r is e = length-map (inverses r) lined ∙ many r ∙ ap length e ∙ length-reverse is ∙ sym (length-map is lined)

undone : (w : List ℕ) → Ran opening (lines is_lf w) → Undone w
undone w d =
    let t = text d.start in
    let v = text_in d.final in
    let k = run_ok buffer_limit d.taken d.held d.ok in
    let x = loads_text v k in
    let y = loads_text t d.ok in
    let b = reversed buffer_limit d.taken d.held (core (loaded_with v k)) x.held x.text in
    let a = b.redo (core (loaded_with t d.ok)) y.held y.text in
    let c = alike Accepted (λ s e u i h. accepted-once h.0 s e u i h.1) d.taken in
    let f = found d.printed d.final (output w) d.plain d.prints in
    let is = inverses d.taken in
    let e : inverses_in (rows (output w)) ≡ map lined is = f.inverses ∙ d.finds in
    let p = replayed w v k is f.text e (subst AllRead c.same_inverses (inverses-read c.run d.held.long)) b.back b.back_edits in
    let js = inverses b.back in
    let g : text_line_in (rows (output (undo w))) ≡ text_line t = p.text-found ∙ ap text_line (last_stage b.back ∙ b.ends) in
    let q = replayed (undo w) t d.ok js g p.inverses-found (inverses-read b.back x.held.long) a.again a.again_edits in
    let n = as_many b.back is b.back_edits ∙ ap length (sym e) in
    record {
      ends = f.text ∙ ap text_line (sym (rw c.same_stages at (last_stage c.run)) ∙ ap last_of (sym d.texts));
      back = p.stages-read ∙ b.back_texts ∙ ap reverse (sym d.texts);
      back_accepted = accepts w (undo w) (map lined js) (map text (stages b.back)) p n;
      again = q.stages-read ∙ a.again_texts ∙ sym d.texts;
      again_accepted = accepts w (undo (undo w)) (map lined (inverses a.again)) (map text (stages a.again)) q (as_many a.again js a.again_edits ∙ n);
    }

pub undoes_scripts : UndoesScripts
undoes_scripts w u = undone w (ran opening (lines is_lf w) opening-fit u)
