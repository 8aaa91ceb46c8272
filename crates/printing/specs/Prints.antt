-- A line of output.
use Rattle.std.specs.Prelude.{List, [], ◌∷◌, ◌++◌, ℕ}
use Rattle.hexline.specs.Digits.{hexed}

-- bytes in hexadecimal, "each ended by LF"
abbrev pub printed_as : List ℕ → List ℕ
printed_as bytes = hexed bytes ++ (10 ∷ [])
