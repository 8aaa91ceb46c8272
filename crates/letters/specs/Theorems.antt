-- "Marks stay on their letters", of edits on texts.
use Rattle.std.specs.Prelude.{true, false, ◌⊎◌, List, ◌∷◌, ◌++◌, ◌≡◌, ℕ}
use Rattle.text.specs.declared.Position.{Position}
use Rattle.text.specs.Rows.{upto, end_of}
use Rattle.text.specs.Text.{is_lf}
use Rattle.edit.specs.Edits.{Whole}
use Rattle.edit.specs.Theorems.{Stands}
use Rattle.shift.specs.Answers.{to}
use Rattle.shift.specs.Kinds.{shifted}
use Rattle.origins.specs.Origins.{Traced, opening, lf_at, opened, traced_run}
use Rattle.origins.specs.Theorems.{edited_text}
use Rattle.letters.specs.Keeps.{KeepsWhole, KeepsRun, shifted_over}

-- ---- letters

-- c is a letter of the text t, "other than LF", that stood at p when the run began (`OriginsStood` of `origins`); what stands before it ends where it stands now
pub record Letter (t before behind : List Traced) (c : Traced) (p : Position) : Type 0 where
  pub stands : t ≡ before ++ c ∷ behind
  pub from : c.origin ≡ opening p
  pub other : lf_at c ≡ false

-- "each character other than LF that the edit's definition doesn't remove stands afterwards at the shifted position of where it stood before",
-- and "Carry this over runs of such edits: the shifts composed give the same place as the surviving character's in the last text."
abbrev pub LettersStayRun : Type 0
LettersStayRun =
    (t : List ℕ) (ws : List (Whole ℕ)) → KeepsRun t ws → (before behind : List Traced) (c : Traced) (p : Position)
    → Letter (traced_run 0 (opened t) ws) before behind c p → shifted_over t ws (to p) ≡ to (end_of lf_at before)

-- ---- marks

-- A mark in the text, or not before its end: a Line delete of the last rows leaves a mark behind the text.
abbrev pub Markable : List ℕ → Position → Type 0
Markable t p = Stands t p ⊎ (upto (end_of is_lf t) p ≡ true)

-- over one edit both are carried to places, in order, where they are such marks still
pub record Landed (t : List ℕ) (w : Whole ℕ) (p q : Position) : Type 0 where
  pub p' : Position
  pub q' : Position
  pub lands_p : shifted t w.edit w.payload w.first p ≡ to p'
  pub lands_q : shifted t w.edit w.payload w.first q ≡ to q'
  pub order : upto p' q' ≡ true
  pub kept_p : Markable (edited_text w t) p'
  pub kept_q : Markable (edited_text w t) q'

-- "Two marks in the text may meet but never pass each other."
abbrev pub MarksMeet : Type 0
MarksMeet = (t : List ℕ) (w : Whole ℕ) → KeepsWhole t w → (p q : Position) → Markable t p → Markable t q → upto p q ≡ true → Landed t w p q

-- and over runs
pub record LandedRun (t : List ℕ) (ws : List (Whole ℕ)) (p q : Position) : Type 0 where
  pub p' : Position
  pub q' : Position
  pub lands_p : shifted_over t ws (to p) ≡ to p'
  pub lands_q : shifted_over t ws (to q) ≡ to q'
  pub order : upto p' q' ≡ true

abbrev pub MarksMeetRun : Type 0
MarksMeetRun = (t : List ℕ) (ws : List (Whole ℕ)) → KeepsRun t ws → (p q : Position) → Stands t p → Stands t q → upto p q ≡ true → LandedRun t ws p q
