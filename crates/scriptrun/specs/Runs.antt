-- How far the program has come. What is read and written no contract can say; these say that whatever is read is fed, from the opening on, and that
-- what is written is something that a script prints.
use Rattle.std.specs.Prelude.{◌≡◌, List, [], ℕ, length, min, Result, Ok, Err}
use Rattle.loading.specs.States.{State, opening}
use Rattle.feed.specs.Feeds.{Fed, fed_by, closing}

-- how many of `most` bytes a read brought
abbrev pub brought : {E : Type 0} → Result ℕ E → ℕ → ℕ
brought (Ok count) most = min count most
brought (Err e) most = 0

-- s and p are the state after some bytes and what is held of a line then
abbrev pub Stands : State → List ℕ → Fed → Type 0
Stands s p x = (s ≡ x.state) × (p ≡ x.pending)

-- some bytes have come since the opening
pub record Come (s : State) (p : List ℕ) : Type 0 where
  pub bytes : List ℕ
  pub stands : Stands s p (fed_by opening [] bytes)

-- what more bytes print then, or what is printed where no more come
pub data Prints : List ℕ → Type 0 where
  more : (s : State) (p bytes : List ℕ) → Come s p → Prints (fed_by s p bytes).printed
  last : (s : State) (p : List ℕ) → Come s p → Prints (closing s (length p))
