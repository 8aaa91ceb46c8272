-- What rules out wrong readers and writers of digits: each line is what the promise asks for at one input, and above it stands the program
-- that leaves something else there. 0 is 48, 1 is 49, a is 97.
use Rattle.std.specs.Prelude.{◌≡◌, false, [], ◌∷◌, replicate}
use Rattle.promise.specs.Paper.{done}
use Rattle.utf8.specs.Calls.{outcome}
use Rattle.hexline.specs.Digits.{line_ok}
use Rattle.hexline.specs.Calls.{bytes_into, digits_into}

pub record RuledOut : Type 0 where
  -- "1a": the low digit first; a the digit of 9; a byte that fills its slice without room
  pub read : bytes_into (49 ∷ 97 ∷ []) (9 ∷ []) ≡ outcome (done 1) (0x1A ∷ [])
  -- digits that fill their slice without room
  pub written : digits_into (0x1A ∷ []) (9 ∷ 9 ∷ []) ≡ outcome (done 2) (49 ∷ 97 ∷ [])
  -- a line with the digits of one byte more than 18,432
  pub long : line_ok (replicate 36_866 48) ≡ false
