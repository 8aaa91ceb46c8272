-- Scripts that begin with a text, and what is printed at the end.
use mathlib.Core.Path.{◌≡◌, refl, sym, ◌∙◌}
use mathlib.Core.Bool.{true}
use mathlib.Core.List.{List, [], ◌∷◌, ◌++◌, append-nil, append_assoc}
use Prim.Native.Nat.{ℕ, ◌≤◌}
use native.Mathlib.Omega.{arith}
use borrow.Author.Tests.{le-leb}
use lib.ListN.{length, length-replicate}
use Rattle.promise.proofs.Bools.{T_true}
use Rattle.text.specs.Rows.{lines}
use Rattle.text.specs.Text.{is_lf, all_admissible, all}
use Rattle.edit.proofs.Accepted.{holds, Ok, ok_fits, ok_admissible}
use Rattle.edit.proofs.Calls.{Held}
use Rattle.hexline.proofs.Breaks.{hexed-plain}
use Rattle.frame.specs.Format.{text, frame_bytes}
use Rattle.marking.specs.MarkLines.{mark_lines}
use Rattle.loading.specs.States.{State, text_in, buffer_limit, opening}
use Rattle.step.specs.Steps.{step, ending}
use Rattle.step.proofs.Framing.{core}
use Rattle.step.proofs.TextLines.{Loaded, opens}
use Rattle.feed.specs.Scripts.{run, output}
use Rattle.script.specs.Undo.{script, text_line, texts_from, texts}
use Rattle.script.proofs.Lines.{run_row, texts-row, script-append}
use Rattle.script.proofs.Printings.{nothing_starts}
use Rattle.script.proofs.Readings.{text-read}

-- ---- texts

-- a text that the buffer holds
pub text-ok : (t : List ℕ) → all_admissible t ≡ true → length t ≤ buffer_limit → Ok buffer_limit t
unfolding holds
text-ok t e h = let k : length t ≤ 16384 = omega arith in rw (le-leb (length t) buffer_limit h, le-leb (length t) 16384 k, e) tt

-- what a script's state always is
pub record Fit (s : State) : Type 0 where
  pub held : Held buffer_limit (core s)
  pub ok : Ok buffer_limit (text_in s)

pub opening-fit : Fit opening
unfolding all
opening-fit = record { held = record { long = length-replicate {A = ℕ} buffer_limit 0; within = omega arith }; ok = text-ok [] refl (omega arith) }

-- ---- a script that starts with a text

module _ (t : List ℕ) (k : Ok buffer_limit t) where
  abbrev pub loaded_with : State
  loaded_with = (step opening (text_line t)).state

  pub loads_text : Loaded buffer_limit t [] (step opening (text_line t))
  loads_text =
      let e = T_true (all_admissible t) (ok_admissible buffer_limit t k) in
      let h = ok_fits buffer_limit t k in
      opens (text_line t) t (text-read t e h) e h

  module _ (rest : List ℕ) where
    pub opened-run : output (text_line t ++ (10 ∷ rest)) ≡ run loaded_with (lines is_lf rest)
    opened-run = run_row opening (text_line t) rest (hexed-plain (frame_bytes (text t))) ∙ rw loads_text.prints

    pub opened-texts : texts (text_line t ++ (10 ∷ rest)) ≡ texts_from loaded_with (lines is_lf rest)
    opened-texts = texts-row opening (text_line t) rest (hexed-plain (frame_bytes (text t))) ∙ rw (loads_text.prints, nothing_starts)

-- ---- the text printed at the end, and the marks behind it

ended : (ls : List (List ℕ)) (u : State) → script ls ++ ending u ≡ script (ls ++ (text_line (text_in u) ∷ [])) ++ mark_lines u.marks
unfolding ending script
ended ls u =
    let l : List (List ℕ) = text_line (text_in u) ∷ [] in
    rw (script-append ls l) (sym (append_assoc (script ls) (script l) (mark_lines u.marks)))

pub ended_alone : (ls : List (List ℕ)) (u : State) (t : List ℕ) → text_in u ≡ t → u.marks ≡ [] → script ls ++ ending u ≡ script (ls ++ (text_line t ∷ []))
unfolding mark_lines
ended_alone ls u t e m = ended ls u ∙ rw (e, m, append-nil)
