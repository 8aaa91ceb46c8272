-- What rules out wrong readers and writers of UTF-8: each line is what the promise asks for at one input, and above it stands the program
-- that leaves something else there.
use Rattle.std.specs.Prelude.{◌≡◌, [], ◌∷◌, ◌++◌, replicate}
use Rattle.promise.specs.Paper.{done}
use Rattle.utf8.specs.Reading.{reading, scalars, bad_at}
use Rattle.utf8.specs.Calls.{outcome, decoded, encoded}

pub record RuledOut : Type 0 where
  -- after a sequence of two, its tail read again
  pub two : reading (0xC3 ∷ 0xA9 ∷ 0x61 ∷ []) ≡ scalars (0xE9 ∷ 0x61 ∷ [])
  -- the last sequence of two refused
  pub two_last : reading (0xDF ∷ 0xBF ∷ []) ≡ scalars (0x7FF ∷ [])
  -- the bits of a lead of three one place too low; the bits of the second octet for those of the third
  pub three : reading (0xE3 ∷ 0x81 ∷ 0x82 ∷ []) ≡ scalars (0x3042 ∷ [])
  -- every sequence of four refused
  pub four : reading (0xF0 ∷ 0x9F ∷ 0x98 ∷ 0x80 ∷ []) ≡ scalars (0x1F600 ∷ [])
  -- 80 read as a scalar behind fifteen octets that are ASCII
  pub block : reading (replicate 15 0x61 ++ (0x80 ∷ [])) ≡ bad_at 15
  -- a slice that is just long enough for the scalars refused
  pub full : decoded (reading (0x61 ∷ [])) (9 ∷ []) ≡ outcome (done 1) (0x61 ∷ [])
  -- U+10FFFF refused
  pub last : encoded (0x10FFFF ∷ []) (replicate 5 9) ≡ outcome (done 4) (0xF4 ∷ 0x8F ∷ 0xBF ∷ 0xBF ∷ 9 ∷ [])
  -- the second octet of four with the bits of the third
  pub written : encoded (0x1F600 ∷ []) (replicate 5 9) ≡ outcome (done 4) (0xF0 ∷ 0x9F ∷ 0x98 ∷ 0x80 ∷ 9 ∷ [])
  -- a slice that is just long enough for the octets refused
  pub written_full : encoded (0x61 ∷ []) (9 ∷ []) ≡ outcome (done 1) (0x61 ∷ [])
