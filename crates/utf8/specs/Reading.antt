-- A whole slice of octets read, and a whole list of character numbers written.
use Rattle.std.specs.Prelude.{Bool, true, ◌&&◌, List, [], ◌∷◌, ◌++◌, ℕ, zero, suc, take}
use Rattle.utf8.specs.Rfc3629.{UTF8-char, taken, number, scalar, octets}

-- the character numbers, or "the offset where the first bad sequence starts"
pub data Reading : Type 0 where
  scalars : List ℕ → Reading
  bad_at : ℕ → Reading

unfoldable pub prepend : ℕ → Reading → Reading
prepend c (scalars cs) = scalars (c ∷ cs)
prepend c (bad_at k) = bad_at k

-- Section 4, `UTF8-octets = *( UTF8-char )`, from the octet at offset `at`, when the sequence that stands before it takes
-- `left` octets more.
unfoldable pub read_from : ℕ → ℕ → List ℕ → Reading
read_from at left [] = scalars []
read_from at (suc left) (x ∷ s) = read_from (suc at) left s
read_from at zero (x ∷ s) =
    elim (taken UTF8-char (x ∷ s)) [ zero ↦ bad_at at | suc n ↦ prepend (number (take (suc n) (x ∷ s))) (read_from (suc at) n s) ]

abbrev pub reading : List ℕ → Reading
reading s = read_from 0 0 s

unfoldable pub all_scalar : List ℕ → Bool
all_scalar [] = true
all_scalar (c ∷ cs) = scalar c && all_scalar cs

unfoldable pub writing : List ℕ → List ℕ
writing [] = []
writing (c ∷ cs) = octets c ++ writing cs
