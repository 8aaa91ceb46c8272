-- A script against its lines.
use mathlib.Core.Path.{◌≡◌, refl, ◌∙◌, ap}
use mathlib.Core.Bool.{cond}
use mathlib.Core.List.{List, [], ◌∷◌, ◌++◌, append-nil, append_assoc}
use Prim.Native.Nat.{ℕ}
use Rattle.text.specs.Rows.{line, lines}
use Rattle.text.specs.Text.{is_lf}
use Rattle.text.proofs.Broken.{front-row}
use Rattle.text.proofs.Ended.{Plain}
use Rattle.loading.specs.States.{State, text_in}
use Rattle.step.specs.Steps.{step}
use Rattle.feed.specs.Scripts.{line_step, run}
use Rattle.script.specs.Undo.{script, rows, starts, texts_from}

-- lines without LF
pub data Plains : List (List ℕ) → Type 0 where
  none : Plains []
  more : {l : List ℕ} {ls : List (List ℕ)} → Plain l → Plains ls → Plains (l ∷ ls)

pub both-plain : {ls ms : List (List ℕ)} → Plains ls → Plains ms → Plains (ls ++ ms)
both-plain none q = q
both-plain (more p ps) q = more p (both-plain ps q)

-- ---- the first line of some bytes, and what comes of it

first_row : (l rest : List ℕ) → Plain l → lines is_lf (l ++ (10 ∷ rest)) ≡ line l (10 ∷ []) ∷ lines is_lf rest
unfolding lines
first_row l rest p = front-row is_lf l (10 ∷ rest) (line [] (10 ∷ [])) (lines is_lf rest) p refl ∙ rw append-nil

module _ (s : State) (l rest : List ℕ) (p : Plain l) where
  pub run_row : run s (lines is_lf (l ++ (10 ∷ rest))) ≡ (step s l).printed ++ run (step s l).state (lines is_lf rest)
  unfolding run line_step
  run_row = rw (first_row l rest p)

  pub texts-row : texts_from s (lines is_lf (l ++ (10 ∷ rest)))
      ≡ cond (starts 48 (step s l).printed) (text_in s ∷ texts_from (step s l).state (lines is_lf rest)) (texts_from (step s l).state (lines is_lf rest))
  unfolding texts_from line_step
  texts-row = rw (first_row l rest p)

-- ---- lines as a script

pub script-rows : {ls : List (List ℕ)} → Plains ls → rows (script ls) ≡ ls ++ ([] ∷ [])
unfolding lines script
script-rows none = refl
script-rows (more {l} {ls} p ps) = rw (first_row l (script ls) p) (ap {B = List (List ℕ)} (λ k. l ∷ k) (script-rows ps))

pub script-append : (ls ms : List (List ℕ)) → script (ls ++ ms) ≡ script ls ++ script ms
unfolding script
script-append [] ms = refl
script-append (l ∷ ls) ms = rw (script-append ls ms, append_assoc l (10 ∷ script ls) (script ms))

-- a line printed before others
pub printed-more : (l p o e : List ℕ) (ls : List (List ℕ)) → p ≡ script (l ∷ []) → o ≡ script ls ++ e → p ++ o ≡ script (l ∷ ls) ++ e
unfolding script
printed-more l p o e ls a b = rw (a, b, append_assoc l (10 ∷ []) (script ls ++ e), append_assoc l (10 ∷ script ls) e)
