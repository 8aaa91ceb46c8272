-- Edits run on characters that carry where they came from.
use Rattle.std.specs.Prelude.{Bool, List, [], ◌∷◌, ℕ, suc}
use Rattle.text.specs.declared.Position.{Position}
use Rattle.text.specs.Rows.{at, ◌⊕◌, end_of}
use Rattle.text.specs.Text.{is_lf}
use Rattle.edit.specs.Edits.{Whole, Made, Edited, edited_by}
use Rattle.edit.specs.Refusals.{is_space}

-- document 02, request 8: "either the place in the opening text where that very character stood, or the number of the edit that put it in and
-- which of its payload characters it was, both from 0; padding, join spaces and split breaks name their edit as such"
pub data Origin : Type 0 where
  opening : Position → Origin
  payload : (edit index : ℕ) → Origin
  padding join_space split_break : (edit : ℕ) → Origin

-- a character with its origin
pub record Traced : Type 0 where
  pub value : ℕ
  pub origin : Origin

abbrev pub traced : ℕ → Origin → Traced
traced v o = record { value = v; origin = o }

abbrev pub value : Traced → ℕ
value c = c.value

abbrev pub lf_at : Traced → Bool
lf_at c = is_lf c.value

abbrev pub space_at : Traced → Bool
space_at c = is_space c.value

-- a text that begins at p, each character with its place
unfoldable pub opened_at : Position → List ℕ → List Traced
opened_at p [] = []
opened_at p (x ∷ t) = traced x (opening p) ∷ opened_at (p ⊕ end_of is_lf (x ∷ [])) t

abbrev pub opened : List ℕ → List Traced
opened t = opened_at (at 0 0) t

-- what edit k puts in: its payload from character i on, and what it makes itself
unfoldable pub numbered : ℕ → ℕ → List ℕ → List Traced
numbered k i [] = []
numbered k i (x ∷ t) = traced x (payload k i) ∷ numbered k (suc i) t

abbrev pub made_by : ℕ → Made Traced
made_by k = record { pad = traced 32 (padding k); space = traced 32 (join_space k); break = traced 10 (split_break k) }

-- edit k, by the definition of the edits
abbrev pub traced_by : ℕ → Whole ℕ → List Traced → Edited Traced
traced_by k w t = edited_by lf_at space_at (made_by k) w.edit (numbered k 0 w.payload) w.first w.second t

-- edits one after another, numbered from k
unfoldable pub traced_run : ℕ → List Traced → List (Whole ℕ) → List Traced
traced_run k t [] = t
traced_run k t (w ∷ ws) = traced_run (suc k) (traced_by k w t).text ws
