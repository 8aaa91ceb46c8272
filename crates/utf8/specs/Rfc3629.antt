-- RFC 3629, "UTF-8, a transformation format of ISO 10646": which octets are UTF-8, and of which character number.
-- An octet is a number, and so is a character number.
use Rattle.std.specs.Prelude.{Bool, true, false, cond, ◌&&◌, ◌||◌, List, [], ◌∷◌, ◌++◌, ℕ, ◌+◌, ◌*◌, ◌/◌, ◌%◌, leb, length}

-- Section 4, the ABNF. `%xLOW-HIGH` is a range of octets, and a rule is a list of alternatives, each a range for each
-- of its octets.
abbrev pub Range : Type 0
Range = ℕ × ℕ

abbrev pub within : Range → ℕ → Bool
within r x = leb r.0 x && leb x r.1

-- UTF8-tail   = %x80-BF
abbrev pub UTF8-tail : Range
UTF8-tail = (0x80, 0xBF)

-- UTF8-1      = %x00-7F
abbrev pub UTF8-1 : List (List Range)
UTF8-1 = ((0x00, 0x7F) ∷ []) ∷ []

-- UTF8-2      = %xC2-DF UTF8-tail
abbrev pub UTF8-2 : List (List Range)
UTF8-2 = ((0xC2, 0xDF) ∷ UTF8-tail ∷ []) ∷ []

-- UTF8-3      = %xE0 %xA0-BF UTF8-tail / %xE1-EC 2( UTF8-tail ) /
--               %xED %x80-9F UTF8-tail / %xEE-EF 2( UTF8-tail )
abbrev pub UTF8-3 : List (List Range)
UTF8-3 =
    ((0xE0, 0xE0) ∷ (0xA0, 0xBF) ∷ UTF8-tail ∷ [])
    ∷ ((0xE1, 0xEC) ∷ UTF8-tail ∷ UTF8-tail ∷ [])
    ∷ ((0xED, 0xED) ∷ (0x80, 0x9F) ∷ UTF8-tail ∷ [])
    ∷ ((0xEE, 0xEF) ∷ UTF8-tail ∷ UTF8-tail ∷ [])
    ∷ []

-- UTF8-4      = %xF0 %x90-BF 2( UTF8-tail ) / %xF1-F3 3( UTF8-tail ) /
--               %xF4 %x80-8F 2( UTF8-tail )
abbrev pub UTF8-4 : List (List Range)
UTF8-4 =
    ((0xF0, 0xF0) ∷ (0x90, 0xBF) ∷ UTF8-tail ∷ UTF8-tail ∷ [])
    ∷ ((0xF1, 0xF3) ∷ UTF8-tail ∷ UTF8-tail ∷ UTF8-tail ∷ [])
    ∷ ((0xF4, 0xF4) ∷ (0x80, 0x8F) ∷ UTF8-tail ∷ UTF8-tail ∷ [])
    ∷ []

-- UTF8-char   = UTF8-1 / UTF8-2 / UTF8-3 / UTF8-4
abbrev pub UTF8-char : List (List Range)
UTF8-char = UTF8-1 ++ (UTF8-2 ++ (UTF8-3 ++ UTF8-4))

-- the octets begin with one in each of the ranges
unfoldable pub begins : List Range → List ℕ → Bool
begins [] s = true
begins (r ∷ rs) [] = false
begins (r ∷ rs) (x ∷ s) = within r x && begins rs s

-- how many octets of s its first alternative of a rule takes; 0 where s begins with none
unfoldable pub taken : List (List Range) → List ℕ → ℕ
taken [] s = 0
taken (row ∷ rows) s = cond (begins row s) (length row) (taken rows s)

-- Section 3: "characters from the U+0000..U+10FFFF range", and "The definition of UTF-8 prohibits encoding character
-- numbers between U+D800 and U+DFFF".
unfoldable pub scalar : ℕ → Bool
scalar c = leb c 0xD7FF || within (0xE000, 0x10FFFF) c

-- Section 3, the table, and "Start by putting the lowest-order bit of the character number in the lowest-order position of
-- the last octet of the sequence":
--     0000 0000-0000 007F | 0xxxxxxx
--     0000 0080-0000 07FF | 110xxxxx 10xxxxxx
--     0000 0800-0000 FFFF | 1110xxxx 10xxxxxx 10xxxxxx
--     0001 0000-0010 FFFF | 11110xxx 10xxxxxx 10xxxxxx 10xxxxxx
unfoldable pub octets : ℕ → List ℕ
octets c =
    cond (leb c 0x7F)
    (c ∷ [])
    (cond (leb c 0x7FF)
    ((0b110_00000 + c / 64) ∷ (0b10_000000 + c % 64) ∷ [])
    (cond (leb c 0xFFFF)
    ((0b1110_0000 + c / 64 / 64) ∷ (0b10_000000 + c / 64 % 64) ∷ (0b10_000000 + c % 64) ∷ [])
    ((0b11110_000 + c / 64 / 64 / 64) ∷ (0b10_000000 + c / 64 / 64 % 64) ∷ (0b10_000000 + c / 64 % 64) ∷ (0b10_000000 + c % 64) ∷ [])))

-- Section 3, decoding: "Determine which bits encode the character number from the number of octets in the sequence and the
-- second column of the table above (the bits marked x)". Of no sequence it is 0.
unfoldable pub number : List ℕ → ℕ
number [] = 0
number (a ∷ []) = a
number (a ∷ b ∷ []) = a % 32 * 64 + b % 64
number (a ∷ b ∷ c ∷ []) = (a % 16 * 64 + b % 64) * 64 + c % 64
number (a ∷ b ∷ c ∷ d ∷ []) = ((a % 8 * 64 + b % 64) * 64 + c % 64) * 64 + d % 64
number (a ∷ b ∷ c ∷ d ∷ e ∷ s) = 0
