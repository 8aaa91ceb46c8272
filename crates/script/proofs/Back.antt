-- Lines of accepted edits behind a text: what they print, and the texts.
use mathlib.Core.Path.{◌≡◌, refl, sym, ◌∙◌, ap, ap₂, subst}
use mathlib.Core.Bool.{true}
use mathlib.Core.List.{List, [], ◌∷◌, ◌++◌, map}
use Prim.Native.Nat.{ℕ, suc}
use lib.ListN.{length}
use Rattle.text.specs.Rows.{lines}
use Rattle.text.specs.Text.{is_lf}
use Rattle.edit.specs.Edits.{Whole}
use Rattle.edit.specs.Runs.{Run, stop, step as then, edits, inverses, stages}
use Rattle.edit.specs.Demand3.{State as Core, text, Accepted}
use Rattle.edit.proofs.Accepted.{Ok}
use Rattle.hexline.proofs.Breaks.{hexed-plain}
use Rattle.hexline.proofs.Zeros.{hexed-zero}
use Rattle.frame.specs.Format.{edit, frame_bytes}
use Rattle.loading.specs.States.{State, text_in, buffer_limit}
use Rattle.step.specs.Steps.{step, ending}
use Rattle.step.proofs.Framing.{core, saw, edit_step}
use Rattle.step.proofs.Callings.{lined, accepted-leaves}
use Rattle.feed.specs.Scripts.{line_step, run, output}
use Rattle.script.specs.Undo.{script, rows, last_of, starts, accepted, inverses_in, text_line, text_line_in, texts_from, texts, Accepts}
use Rattle.script.proofs.Lines.{Plains, none as no_lines, more as more-lines, run_row, texts-row, printed-more}
use Rattle.script.proofs.Printings.{accepted-plain, zero_starts, last_of_lem, inverses-accepted, found}
use Rattle.script.proofs.Readings.{Reads, AllRead, more}
use Rattle.script.proofs.Openings.{loaded_with, loads_text, opened-run, opened-texts, ended_alone}

-- one line
record Fed (s : State) (w : Whole ℕ) (u : Core) (i : Whole ℕ) : Type 0 where
  state : core (step s (lined w)).state ≡ u
  prints : (step s (lined w)).printed ≡ script (accepted (lined i) ∷ [])
  marks : s.marks ≡ [] → (step s (lined w)).state.marks ≡ []
  taken : starts 48 (step s (lined w)).printed ≡ true

fed : (s : State) (w : Whole ℕ) (u : Core) (i : Whole ℕ) → Reads w → Accepted (core s) w u i → Fed s w u i
unfolding script
fed s w u i r h =
    let q = edit_step s (lined w) w r in
    let x = accepted-leaves (saw s (lined w)) w u i h in
    let p : (step s (lined w)).printed ≡ script (accepted (lined i) ∷ []) = rw q (x.prints ∙ rw (hexed-zero (frame_bytes (edit i)))) in
    record {
      state = rw q x.state;
      prints = p;
      marks = λ m. rw q (x.marks ∙ rw m);
      taken = ap (starts 48) p ∙ zero_starts (lined i ++ (10 ∷ []));
    }

-- a run of them
record Redone (s : State) {c v : Core} (r : Run Accepted c v) : Type 0 where
  end : State
  ends : core end ≡ v
  marks : end.marks ≡ []
  prints : run s (lines is_lf (script (map lined (edits r)))) ≡ script (map accepted (map lined (inverses r))) ++ ending end
  stages-read : texts_from s (lines is_lf (script (map lined (edits r)))) ≡ map text (stages r)

redone : (s : State) {c v : Core} (r : Run Accepted c v) → core s ≡ c → s.marks ≡ [] → AllRead (edits r) → Redone s r
unfolding edits inverses stages lines run line_step texts_from starts script
redone s stop e m a = record { end = s; ends = e; marks = m; prints = refl; stages-read = ap (λ (b : Core). text b ∷ []) e }
redone s (then {u = u} {e = w} {i = i} h r) e m (more a ws) =
    let x = fed s w u i a (subst (λ (b : Core). Accepted b w u i) (sym e) h) in
    let d = redone (step s (lined w)).state r x.state (x.marks m) ws in
    let rest = script (map lined (edits r)) in
    let p = hexed-plain (frame_bytes (edit w)) in
    record {
      end = d.end;
      ends = d.ends;
      marks = d.marks;
      prints = run_row s (lined w) rest p ∙ printed-more (accepted (lined i)) (step s (lined w)).printed (run (step s (lined w)).state (lines is_lf rest)) (ending d.end) (map accepted (map lined (inverses r))) x.prints d.prints;
      stages-read = texts-row s (lined w) rest p ∙ rw x.taken (ap₂ {C = List (List ℕ)} (λ b ts. text b ∷ ts) e d.stages-read);
    }

-- the last stage of a run
stages-end : {c v : Core} (r : Run Accepted c v) → (ts : List (List ℕ)) × (map text (stages r) ≡ ts ++ (text v ∷ []))
unfolding stages
stages-end stop = ([], refl)
stages-end (then {s = s} h r) = let x = stages-end r in (text s ∷ x.0, ap {B = List (List ℕ)} (λ ts. text s ∷ ts) x.1)

pub last_stage : {c v : Core} (r : Run Accepted c v) → last_of (map text (stages r)) ≡ text v
last_stage {v = v} r = let x = stages-end r in ap last_of x.1 ∙ last_of_lem x.0 (text v)

pub many : {c v : Core} (r : Run Accepted c v) → length (inverses r) ≡ length (edits r)
unfolding edits inverses
many stop = refl
many (then h r) = ap suc (many r)

-- the script of a text and of lines which are all accepted
pub record Played (b : List ℕ) (is ts : List (List ℕ)) : Type 0 where
  pub stages-read : texts b ≡ ts
  pub prints : output b ≡ script (map accepted is ++ (text_line (last_of ts) ∷ []))
  pub inverses-found : inverses_in (rows (output b)) ≡ is
  pub text-found : text_line_in (rows (output b)) ≡ text_line (last_of ts)

all_plain : (ws : List (Whole ℕ)) → Plains (map accepted (map lined ws))
all_plain [] = no_lines
all_plain (w ∷ ws) = more-lines (accepted-plain (frame_bytes (edit w))) (all_plain ws)

pub played : (t : List ℕ) (k : Ok buffer_limit t) {v : Core} (r : Run Accepted (core (loaded_with t k)) v) → AllRead (edits r)
    → Played (script (text_line t ∷ map lined (edits r))) (map lined (inverses r)) (map text (stages r))
unfolding script
played t k r a =
    let rest = script (map lined (edits r)) in
    let d = redone (loaded_with t k) r refl (loads_text t k).marks a in
    let is = map lined (inverses r) in
    let o = opened-run t k rest ∙ d.prints in
    let e : text_in d.end ≡ last_of (map text (stages r)) = ap text d.ends ∙ sym (last_stage r) in
    let f = found (map accepted is) d.end (output (text_line t ++ (10 ∷ rest))) (all_plain (inverses r)) o in
    record {
      stages-read = opened-texts t k rest ∙ d.stages-read;
      prints = o ∙ ended_alone (map accepted is) d.end (last_of (map text (stages r))) e d.marks;
      inverses-found = f.inverses ∙ inverses-accepted is;
      text-found = f.text ∙ ap text_line e;
    }

pub accepts : (w b : List ℕ) (is ts : List (List ℕ)) → Played b is ts → length is ≡ length (inverses_in (rows (output w))) → Accepts w b
accepts w b is ts p n = record { one_each = ap length p.inverses-found ∙ n; alone = rw (p.inverses-found, p.stages-read) p.prints }
