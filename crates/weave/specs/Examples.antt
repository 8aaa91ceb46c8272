-- What rules out wrong programs: each line is what `commit` promises at one input, "abcdefgh" before three places of 7, where the edit makes 46,
-- and above it stand the programs that leave something else there.
use mathlib.Core.Path.{◌≡◌}
use mathlib.Core.List.{List, [], ◌∷◌}
use Prim.Native.Nat.{ℕ}
use lib.ListN.{take}
use Rattle.text.specs.Text.{renewed}
use Rattle.steps.specs.Steps.{woven}
use Rattle.steps.specs.Numbers.{steps_of}

abbrev pub lent : List ℕ
lent = 97 ∷ 98 ∷ 99 ∷ 100 ∷ 101 ∷ 102 ∷ 103 ∷ 104 ∷ 7 ∷ 7 ∷ 7 ∷ []

abbrev pub left : ℕ → List ℕ → List ℕ → List ℕ
left n l x = renewed lent 8 (woven 46 (steps_of n l x) (take 8 lent))

pub record RuledOut : Type 0 where
  -- c and ef go down, g and h up: all pieces moved from the front on, so that g is put over h; all from the back on, so that ef is put over c;
  -- the last step not taken
  pub ways : left 4 (0 ∷ 2 ∷ 0 ∷ 0 ∷ 0 ∷ 1 ∷ 1 ∷ 0 ∷ 0 ∷ 0 ∷ 2 ∷ 0 ∷ 0 ∷ 4 ∷ 0 ∷ 1 ∷ 0 ∷ 1 ∷ 0 ∷ 0 ∷ []) (87 ∷ 88 ∷ 89 ∷ 90 ∷ [])
      ≡ 99 ∷ 101 ∷ 102 ∷ 87 ∷ 88 ∷ 89 ∷ 90 ∷ 103 ∷ 46 ∷ 104 ∷ 7 ∷ []
  -- what is made left out, made of spaces or of zeros, or put behind what comes; what comes put at the front; the second step given the payload from its front again
  pub made : left 2 (1 ∷ 0 ∷ 2 ∷ 1 ∷ 0 ∷ 1 ∷ 2 ∷ 0 ∷ 1 ∷ 0 ∷ []) (88 ∷ 89 ∷ [])
      ≡ 97 ∷ 46 ∷ 46 ∷ 88 ∷ 98 ∷ 89 ∷ 101 ∷ 102 ∷ 103 ∷ 104 ∷ 7 ∷ []
  -- what the text gives up not cleared; the places behind it cleared too; what is lost to an inverse left in the text
  pub cleared : left 1 (1 ∷ 4 ∷ 0 ∷ 1 ∷ 2 ∷ []) (88 ∷ []) ≡ 97 ∷ 88 ∷ 102 ∷ 103 ∷ 104 ∷ 0 ∷ 0 ∷ 0 ∷ 7 ∷ 7 ∷ 7 ∷ []
  -- no steps: what stands behind the last step given up
  pub none : left 0 [] [] ≡ lent
