-- What is proved of origins.
use Rattle.std.specs.Prelude.{List, [], ◌∷◌, ◌++◌, map, ◌≡◌, ℕ}
use Rattle.text.specs.declared.Position.{Position}
use Rattle.text.specs.Rows.{end_of}
use Rattle.text.specs.Text.{is_lf}
use Rattle.edit.specs.Edits.{Whole, edited_by}
use Rattle.edit.specs.Refusals.{is_space, spaces}
use Rattle.origins.specs.Origins.{opening, Traced, value, opened, traced_run}

-- the text after an edit, and after several
abbrev pub edited_text : Whole ℕ → List ℕ → List ℕ
edited_text w t = (edited_by is_lf is_space spaces w.edit w.payload w.first w.second t).text

unfoldable pub text_run : List ℕ → List (Whole ℕ) → List ℕ
text_run t [] = t
text_run t (w ∷ ws) = text_run (edited_text w t) ws

-- Origins change nothing: without them, the characters are those of the text.
abbrev pub OriginsKeepText : Type 0
OriginsKeepText = (t : List ℕ) (ws : List (Whole ℕ)) → map value (traced_run 0 (opened t) ws) ≡ text_run t ws

-- v stands at p in the text t
pub record StandsAt (t : List ℕ) (v : ℕ) (p : Position) : Type 0 where
  pub before : List ℕ
  pub behind : List ℕ
  pub text : t ≡ before ++ v ∷ behind
  pub place : end_of is_lf before ≡ p

-- "the place in the opening text where that very character stood": whatever the edits are, a character whose origin is such a place stood there.
abbrev pub OriginsStood : Type 0
OriginsStood =
    (t : List ℕ) (ws : List (Whole ℕ)) (before behind : List Traced) (c : Traced) (p : Position)
    → traced_run 0 (opened t) ws ≡ before ++ c ∷ behind → c.origin ≡ opening p → StandsAt t c.value p
