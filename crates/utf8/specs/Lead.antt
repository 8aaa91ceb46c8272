-- Document 01's rule for the lead byte.
use Rattle.std.specs.Prelude.{cond, List, [], ℕ, eqb}
use Rattle.utf8.specs.Rfc3629.{Range, UTF8-1, UTF8-2, UTF8-3, UTF8-4}

-- "The lead byte's count of leading one bits gives the sequence length; zero ones mean one byte, one or over
-- four are ill-formed."
unfoldable pub announced : ℕ → List (List Range)
announced ones = cond (eqb ones 0) UTF8-1 (cond (eqb ones 2) UTF8-2 (cond (eqb ones 3) UTF8-3 (cond (eqb ones 4) UTF8-4 [])))
