-- What rules out wrong feeders: each line is what the promise asks for at one input, and above it stands the program that leaves something
-- else there. 0 is 48, 1 is 49, 6 is 54, a is 97, LF is 10.
use Rattle.std.specs.Prelude.{◌≡◌, List, [], ◌∷◌, ℕ}
use Rattle.loading.specs.States.{opening}
use Rattle.feed.specs.Scripts.{output}
use Rattle.feed.specs.Feeds.{Fed, fed, fed_pieces}

-- pieces from the opening on
abbrev pub begun : List (List ℕ) → Fed
begun ps = fed_pieces (fed opening [] []) ps

pub record RuledOut : Type 0 where
  -- a last line without LF run like any other, or passed over
  pub cut : output (48 ∷ 49 ∷ 54 ∷ 49 ∷ []) ≡ 48 ∷ 97 ∷ 10 ∷ 48 ∷ 49 ∷ 10 ∷ []
  -- one more line behind the last LF
  pub ended : output (48 ∷ 49 ∷ 54 ∷ 49 ∷ 10 ∷ []) ≡ 48 ∷ 49 ∷ 54 ∷ 49 ∷ 10 ∷ []
  -- a line stepped, or what is held of it forgotten, where a piece ends
  pub seam : (begun ((48 ∷ 49 ∷ []) ∷ (54 ∷ 49 ∷ 10 ∷ []) ∷ [])).state.view.used ≡ 1
  -- a line held on behind its LF: 0, then 01
  pub next : (begun ((48 ∷ []) ∷ (10 ∷ 48 ∷ []) ∷ (49 ∷ 10 ∷ []) ∷ [])).printed ≡ 48 ∷ 97 ∷ 10 ∷ []
