-- What rules out wrong appliers of lines: each line is what the promise asks for at one line of a script, and above it stands the program
-- that answers something else there.
use Rattle.std.specs.Prelude.{◌≡◌, [], ◌∷◌, replicate}
use Rattle.promise.specs.Paper.{refused}
use Rattle.text.specs.Rows.{at}
use Rattle.hexline.specs.Digits.{hexed}
use Rattle.edit.specs.Call.{outcome}
use Rattle.framed.specs.Calls.{line_applied}

pub record RuledOut : Type 0 where
  -- a mark taken for an edit that changes nothing
  pub a_mark :
      line_applied (record { used = 1; cursor = at 0 0; changes = 0 }) (hexed (0x02 ∷ replicate 16 0)) (0x61 ∷ 7 ∷ []) (9 ∷ []) (9 ∷ []) (9 ∷ [])
      ≡ outcome (refused 10 0) (0x61 ∷ 7 ∷ []) (9 ∷ []) (9 ∷ []) (9 ∷ [])
  -- a malformed line refused by 8
  pub malformed :
      line_applied (record { used = 1; cursor = at 0 0; changes = 0 }) (hexed (0x03 ∷ [])) (0x61 ∷ 7 ∷ []) (9 ∷ []) (9 ∷ []) (9 ∷ [])
      ≡ outcome (refused 10 0) (0x61 ∷ 7 ∷ []) (9 ∷ []) (9 ∷ []) (9 ∷ [])
