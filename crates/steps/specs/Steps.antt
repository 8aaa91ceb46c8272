-- An edit as steps through a text, from its front: so many stay, so many go, and others come in their place. Steps are in order and
-- disjoint by their form.
use mathlib.Core.Bool.{Bool}
use mathlib.Core.List.{List, [], ◌∷◌, ◌++◌}
use Prim.Native.Nat.{ℕ, ◌+◌, ◌-◌}
use lib.ListN.{length, take, drop, replicate}
use Rattle.text.specs.Rows.{last_row}

-- `keep` elements stay behind the step before. Then `gone` go, the first `lost` of which an inverse does not give back; and there come `pad`
-- elements that the edit makes itself, and `come` of its payload.
pub record Step (A : Type 0) : Type 0 where
  pub keep : ℕ
  pub gone : ℕ
  pub pad : ℕ
  pub lost : ℕ
  pub come : List A

module _ {A : Type 0} where
  abbrev pub step : ℕ → ℕ → ℕ → ℕ → List A → Step A
  step k g p o x = record { keep = k; gone = g; pad = p; lost = o; come = x }

  abbrev pub brought : A → Step A → List A
  brought v s = replicate s.pad v ++ s.come

  -- the text once each step is taken, where the edit makes v
  unfoldable pub woven : A → List (Step A) → List A → List A
  woven v [] t = t
  woven v (s ∷ ss) t = take s.keep t ++ (brought v s ++ woven v ss (drop (s.keep + s.gone) t))

  -- the same steps with n more elements before them
  unfoldable pub ahead : ℕ → List (Step A) → List (Step A)
  ahead n [] = []
  ahead n (s ∷ ss) = step (n + s.keep) s.gone s.pad s.lost s.come ∷ ss

  -- what an inverse gives back
  unfoldable pub cut_of : List (Step A) → List A → List A
  cut_of [] t = []
  cut_of (s ∷ ss) t = take (s.gone - s.lost) (drop (s.keep + s.lost) t) ++ cut_of ss (drop (s.keep + s.gone) t)

  -- how much of a text the steps pass over, and how much they put there
  unfoldable pub passed : List (Step A) → ℕ
  passed [] = 0
  passed (s ∷ ss) = s.keep + s.gone + passed ss

  unfoldable pub laid : List (Step A) → ℕ
  laid [] = 0
  laid (s ∷ ss) = s.keep + (s.pad + length s.come) + laid ss

  -- what the lists of an inverse are made of: how much each step gives back, how much it makes, and where it stands in the text that is
  -- woven, of which k elements come before
  unfoldable pub given_back : List (Step A) → List ℕ
  given_back [] = []
  given_back (s ∷ ss) = (s.gone - s.lost) ∷ given_back ss

  unfoldable pub padded : List (Step A) → List ℕ
  padded [] = []
  padded (s ∷ ss) = s.pad ∷ padded ss

  unfoldable pub places : ℕ → List (Step A) → List ℕ
  places k [] = []
  places k (s ∷ ss) = (k + s.keep) ∷ places (k + s.keep + (s.pad + length s.come)) ss

module _ {A : Type 0} (lf : A → Bool) where
  -- how many LFs go, and how many come
  unfoldable pub breaks_gone : List (Step A) → List A → ℕ
  breaks_gone [] t = 0
  breaks_gone (s ∷ ss) t = last_row lf (take s.gone (drop s.keep t)) + breaks_gone ss (drop (s.keep + s.gone) t)

  unfoldable pub breaks_come : A → List (Step A) → ℕ
  breaks_come v [] = 0
  breaks_come v (s ∷ ss) = last_row lf (brought v s) + breaks_come v ss
