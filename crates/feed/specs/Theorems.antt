-- What is proved beside that the code meets its promises. The proofs stand in proofs/Theorems.antt.
use mathlib.Core.List.{List, [], ◌++◌, flatten}
use Rattle.std.specs.Prelude.{◌≡◌, ℕ, ◌<◌, length}
use Rattle.hexline.specs.Digits.{digit_limit}
use Rattle.loading.specs.States.{State, opening}
use Rattle.step.specs.Steps.{step}
use Rattle.feed.specs.Scripts.{output}
use Rattle.feed.specs.Feeds.{held, fed, fed_by, fed_on, fed_pieces, whole}

-- Bytes that come in two pieces do what they do in one.
abbrev pub FedInTwo : Type 0
FedInTwo = (s : State) (p xs ys : List ℕ) → fed_by s p (xs ++ ys) ≡ fed_on (fed_by s p xs) ys

-- All lines that are too long do the same.
abbrev pub LongAlike : Type 0
LongAlike = (s : State) (l k : List ℕ) → digit_limit < length l → digit_limit < length k → step s l ≡ step s k

-- What is held of a line is stepped as the line is.
abbrev pub HeldAlike : Type 0
HeldAlike = (s : State) (l : List ℕ) → step s (held l) ≡ step s l

-- An input that comes in any pieces prints, its ending with it, what the whole of it does.
abbrev pub FedWhole : Type 0
FedWhole = (ps : List (List ℕ)) → whole (fed_pieces (fed opening [] []) ps) ≡ output (flatten ps)
