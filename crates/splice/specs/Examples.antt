-- What rules out wrong splices: each line is what the promise asks for at one input, "abc" before three places of 7, and above it stands
-- the program that leaves something else there.
use Rattle.std.specs.Prelude.{◌≡◌, List, [], ◌∷◌, ℕ}
use Rattle.splice.specs.Splice.{gap, gap_opened, gap_removed, gap_closed}

abbrev pub abc : List ℕ
abc = 97 ∷ 98 ∷ 99 ∷ 7 ∷ 7 ∷ 7 ∷ []

pub record RuledOut : Type 0 where
  -- a space and X at 1: what stands behind the gap, or its first place, not moved up; the space a zero, or put at the end of the text; X put
  -- at the front
  pub opened : gap_opened abc 3 1 (32 ∷ 88 ∷ []) ≡ 97 ∷ 32 ∷ 88 ∷ 98 ∷ 99 ∷ 7 ∷ []
  -- what stands behind a cut not moved down
  pub removed : gap_removed abc 3 1 2 ≡ 97 ∷ 99 ∷ 0 ∷ 7 ∷ 7 ∷ 7 ∷ []
  -- a cut up to the end of the text not made
  pub removed_last : gap_removed abc 3 1 3 ≡ 97 ∷ 0 ∷ 0 ∷ 7 ∷ 7 ∷ 7 ∷ []
  -- the places behind what was cut cleared
  pub closed : gap_closed abc 3 1 2 (9 ∷ 9 ∷ []) ≡ gap (97 ∷ 99 ∷ 0 ∷ 7 ∷ 7 ∷ 7 ∷ []) (98 ∷ 9 ∷ [])
