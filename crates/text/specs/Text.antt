-- A text: numbers in a lent buffer, with a used length.
use Rattle.std.specs.Prelude.{Bool, true, not, ◌&&◌, ◌||◌, List, [], ◌∷◌, ◌++◌, ℕ, ◌-◌, max, eqb, leb, length, take, drop, replicate}
use Rattle.utf8.specs.Rfc3629.{scalar, within}

abbrev pub is_lf : ℕ → Bool
is_lf x = eqb x 10

-- "Any scalar is admitted but U+000B, U+000C, U+000D, U+0085, U+2028 and U+2029"
unfoldable pub admissible : ℕ → Bool
admissible x = scalar x && not (within (0x0B, 0x0D) x || eqb x 0x85 || within (0x2028, 0x2029) x)

unfoldable pub all : {A : Type 0} → (A → Bool) → List A → Bool
all f [] = true
all f (x ∷ xs) = f x && all f xs

abbrev pub all_admissible : List ℕ → Bool
all_admissible t = all admissible t

abbrev pub text_limit : ℕ
text_limit = 16_384

-- "A text is 0 to 16,384 Unicode scalar values in a lent buffer of 32-bit numbers, with a used length"
unfoldable pub text_ok : List ℕ → ℕ → Bool
text_ok buffer used = leb used (length buffer) && leb used text_limit && all_admissible (take used buffer)

-- The buffer once u stands for its text: "Text places between new and old used length become 0 when the text shrinks; later
-- places keep their contents".
unfoldable pub renewed : List ℕ → ℕ → List ℕ → List ℕ
renewed buffer used u = u ++ (replicate (used - length u) 0 ++ drop (max used (length u)) buffer)
