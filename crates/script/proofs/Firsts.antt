-- The first of a script's texts.
use mathlib.Core.Path.{◌≡◌, refl, ◌∙◌, ap}
use mathlib.Core.Bool.{Bool, true, false, cond}
use mathlib.Core.List.{List, [], ◌∷◌, map}
use mathlib.Core.Logic.{⊎_elim}
use Prim.Native.Nat.{ℕ}
use native.Mathlib.Omega.{arith}
use lib.ListN.{get_or}
use Rattle.promise.proofs.Bools.{known, clash}
use Rattle.text.specs.Rows.{Line, lines}
use Rattle.text.specs.Text.{is_lf}
use Rattle.edit.specs.Demand3.{text as text_of}
use Rattle.hexline.specs.Digits.{digit_of, hexed}
use Rattle.frame.specs.Format.{text, frame_bytes}
use Rattle.frame.proofs.Theorems.{line-done, writes_read}
use Rattle.loading.specs.States.{State, text_in, opening}
use Rattle.step.proofs.TextLines.{opens-sound}
use Rattle.step.proofs.Ways.{Same, Loads, Goes, edits, loads, keeps, refuses-by}
use Rattle.feed.specs.Scripts.{line_step}
use Rattle.script.specs.Undo.{starts, starting, text_line, texts_from, Opens}
use Rattle.script.proofs.Printings.{nothing_starts, byte_starts}
use Rattle.script.proofs.Readings.{text-read}
use Rattle.script.proofs.Openings.{text-ok, loaded_with, loads_text, opened-texts}
use Rattle.script.proofs.Forward.{row_goes, accepted-starts}

-- no line begins with 01
abbrev Textless : List (Line ℕ) → Type 0
Textless rs = starting 49 (map (λ r. r.body) rs) ≡ []

textless_tail : (r : Line ℕ) (rs : List (Line ℕ)) → Textless (r ∷ rs) → Textless rs
unfolding starting
textless_tail r rs = go (starts 49 r.body)
  where
    go : (b : Bool) → cond b (r.body ∷ starting 49 (map (λ r. r.body) rs)) (starting 49 (map (λ r. r.body) rs)) ≡ [] → Textless rs
    go true e = let z : ◌≡◌ {A = ℕ} 0 1 = cc in absurd (omega arith)
    go false e = e

-- where a text is loaded, a line does
load_starts : (s : State) (r : Line ℕ) (rs : List (Line ℕ)) → Loads s r.body (line_step s r) → Textless (r ∷ rs) → ⊥
unfolding starting starts frame_bytes hexed digit_of
load_starts s r rs x e =
    let q = (line-done (text x.chars_read) r.body (writes_read (text x.chars_read) r.body x.reads)).3 in
    let k = rw (← q) at e in
    let z : ◌≡◌ {A = ℕ} 0 1 = cc in
    omega arith

module _ (s : State) (r : Line ℕ) (rs : List (Line ℕ)) where
  abbrev Next : Type 0
  Next = ((line_step s r).state.place.sound ≡ false → Textless rs) → get_or (texts_from (line_step s r).state rs) 0 [] ≡ text_in (line_step s r).state

  passed : starts 48 (line_step s r).printed ≡ false → Same s (line_step s r).state → (s.place.sound ≡ false → Textless (r ∷ rs)) → Next → get_or (texts_from s (r ∷ rs)) 0 [] ≡ text_in s
  unfolding texts_from
  passed b h t next =
      rw b (next (λ k. ⊎_elim (λ e. absurd (clash (h.still_sound e) k)) (λ f. textless_tail r rs (t f)) (known s.place.sound)) ∙ ap text_of h.same_core)

  first_on : Goes s r.body (line_step s r) → (s.place.sound ≡ false → Textless (r ∷ rs)) → Next → get_or (texts_from s (r ∷ rs)) 0 [] ≡ text_in s
  unfolding texts_from
  first_on (edits x) t next = rw (accepted-starts s r rs x)
  first_on (loads x) t next = absurd (load_starts s r rs x (t x.first))
  first_on (keeps h p) t next = passed (rw p nothing_starts) h t next
  first_on (refuses-by h n k p) t next = passed (rw p (byte_starts n (10 ∷ []) k)) h t next

first_text : (s : State) (rs : List (Line ℕ)) → (s.place.sound ≡ false → Textless rs) → get_or (texts_from s rs) 0 [] ≡ text_in s
unfolding texts_from
first_text s [] t = refl
first_text s (r ∷ rs) t = first_on s r rs (row_goes s r) t (λ k. first_text (line_step s r).state rs k)

pub scripts_open : Opens
scripts_open = record {
  given = λ t rest e h.
      let k = text-ok t e h in
      let s = opens-sound (text_line t) t (text-read t e h) in
      ap {B = List ℕ} (λ ts. get_or ts 0 []) (opened-texts t k rest) ∙ first_text (loaded_with t k) (lines is_lf rest) (λ f. absurd (clash s f)) ∙ (loads_text t k).text;
  empty = λ w e. first_text opening (lines is_lf w) (λ f. e);
}
