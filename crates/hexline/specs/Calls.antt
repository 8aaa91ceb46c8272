-- What each call answers, and leaves in the slice lent to it.
use Rattle.std.specs.Prelude.{cond, List, ℕ, leb, length}
use Rattle.promise.specs.Paper.{Paper, done, refused}
use Rattle.utf8.specs.Calls.{Outcome, outcome, stored}
use Rattle.hexline.specs.Digits.{digit_limit, hexed, unhexed, line_ok}
use Rattle.std.specs.Prelude.{Result, Ok, Err}
use Rattle.utf8.specs.declared.NoRoom.{NoRoom}
use Rattle.hexline.specs.declared.UnhexError.{UnhexError}
use Rattle.hexline.specs.declared.UnhexError.TheVariants as unhex_error

-- 8 NoRoom: "decoded or encoded output too long for its slice"; 10 BadFrame: "malformed line"
abbrev pub paper_unhexed : Result ℕ UnhexError → Paper ℕ
paper_unhexed (Ok n) = done n
paper_unhexed (Err unhex_error.BadFrame) = refused 10 0
paper_unhexed (Err unhex_error.NoRoom) = refused 8 0

abbrev pub paper_hexed : Result ℕ NoRoom → Paper ℕ
paper_hexed (Ok n) = done n
paper_hexed (Err e) = refused 8 0

-- unhex: 10, then 8
unfoldable pub bytes_into : List ℕ → List ℕ → Outcome
bytes_into l out = cond (line_ok l) (stored (unhexed l) out) (outcome (refused 10 0) out)

-- hex: 8 where no line holds so many digits, or the slice does not
unfoldable pub digits_into : List ℕ → List ℕ → Outcome
digits_into bs out = cond (leb (length (hexed bs)) digit_limit) (stored (hexed bs) out) (outcome (refused 8 0) out)
