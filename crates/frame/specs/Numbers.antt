-- "Numbers are four bytes, high first."
use Rattle.std.specs.Prelude.{List, [], ◌∷◌, ◌++◌, ℕ, zero, suc, ◌+◌, ◌*◌, ◌/◌, ◌%◌, drop, get_or}
use Rattle.text.specs.declared.Position.{Position}
use Rattle.text.specs.Rows.{at}

-- a number and a position as bytes
abbrev pub number : ℕ → List ℕ
number n = (n / 256 / 256 / 256) ∷ (n / 256 / 256 % 256) ∷ (n / 256 % 256) ∷ (n % 256) ∷ []

abbrev pub position : Position → List ℕ
position p = number p.row.0 ++ number p.col.0

-- the number and the position that stand at offset i of some bytes
unfoldable pub number_in : List ℕ → ℕ → ℕ
number_in b i = ((get_or b i 0 * 256 + get_or b (i + 1) 0) * 256 + get_or b (i + 2) 0) * 256 + get_or b (i + 3) 0

abbrev pub position_in : List ℕ → ℕ → Position
position_in b i = at (number_in b i) (number_in b (i + 4))

-- n items of k bytes each, and from each what f finds in it
unfoldable pub items : ℕ → ℕ → (List ℕ → ℕ) → List ℕ → List ℕ
items k zero f s = []
items k (suc n) f s = f s ∷ items k n f (drop k s)
