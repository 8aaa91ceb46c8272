-- "Lines of lower-case hexadecimal, at most 36,864 digits": a line is the numbers of its ASCII characters, two to a byte, high first.
use Rattle.std.specs.Prelude.{Bool, true, false, cond, ◌&&◌, ◌||◌, List, [], ◌∷◌, ℕ, ◌+◌, ◌-◌, ◌*◌, ◌/◌, ◌%◌, leb, length}
use Rattle.utf8.specs.Rfc3629.{within}

abbrev pub digit_limit : ℕ
digit_limit = 36_864

-- 0 to 9, a to f
unfoldable pub is_digit : ℕ → Bool
is_digit c = within (48, 57) c || within (97, 102) c

unfoldable pub value_of : ℕ → ℕ
value_of c = cond (leb c 57) (c - 48) (c - 87)

unfoldable pub digit_of : ℕ → ℕ
digit_of n = cond (leb n 9) (48 + n) (87 + n)

-- the digits of some bytes
unfoldable pub hexed : List ℕ → List ℕ
hexed [] = []
hexed (b ∷ bs) = digit_of (b / 16) ∷ digit_of (b % 16) ∷ hexed bs

-- the bytes of some digits
unfoldable pub unhexed : List ℕ → List ℕ
unhexed [] = []
unhexed (c ∷ []) = []
unhexed (c ∷ d ∷ s) = (value_of c * 16 + value_of d) ∷ unhexed s

-- two by two, and nothing but digits
unfoldable pub paired : List ℕ → Bool
paired [] = true
paired (c ∷ []) = false
paired (c ∷ d ∷ s) = is_digit c && is_digit d && paired s

abbrev pub line_ok : List ℕ → Bool
line_ok l = leb (length l) digit_limit && paired l
