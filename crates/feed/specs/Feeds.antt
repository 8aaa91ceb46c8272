-- A script whose bytes come in pieces.
use Rattle.std.specs.Prelude.{cond, List, [], ◌∷◌, ◌++◌, ℕ, eqb, length, take}
use Rattle.text.specs.Text.{is_lf}
use Rattle.printing.specs.Prints.{printed_as}
use Rattle.loading.specs.States.{State}
use Rattle.step.specs.Steps.{step, ending}

-- What is held of a line whose LF has not come. "at most 36,864 digits": with one more it is too long, whatever follows.
abbrev pub held_limit : ℕ
held_limit = 36_865

abbrev pub held : List ℕ → List ℕ
held l = take held_limit l

-- the script after some bytes, what is held of its line, and what the bytes printed
pub record Fed : Type 0 where
  pub state : State
  pub pending : List ℕ
  pub printed : List ℕ

abbrev pub fed : State → List ℕ → List ℕ → Fed
fed s p o = record { state = s; pending = p; printed = o }

-- a byte: an LF steps what is held, another one is held
unfoldable pub fed_byte : State → List ℕ → ℕ → Fed
fed_byte s p b = cond (is_lf b) (let x = step s p in fed x.state [] x.printed) (fed s (held (p ++ (b ∷ []))) [])

-- bytes, one after another
unfoldable pub fed_by : State → List ℕ → List ℕ → Fed
fed_by s p [] = fed s p []
fed_by s p (b ∷ bs) = let x = fed_byte s p b in let y = fed_by x.state x.pending bs in fed y.state y.pending (x.printed ++ y.printed)

-- more bytes
abbrev pub fed_on : Fed → List ℕ → Fed
fed_on x bs = let y = fed_by x.state x.pending bs in fed y.state y.pending (x.printed ++ y.printed)

-- pieces, one after another
unfoldable pub fed_pieces : Fed → List (List ℕ) → Fed
fed_pieces x [] = x
fed_pieces x (bs ∷ ps) = fed_pieces (fed_on x bs) ps

-- All that is printed once nothing more comes, where n bytes are held: "Malformed too are .. a last line without LF".
unfoldable pub closing : State → ℕ → List ℕ
closing s n = cond (eqb n 0) [] (printed_as (10 ∷ [])) ++ ending s

-- all that is printed where nothing comes behind these bytes
abbrev pub whole : Fed → List ℕ
whole x = x.printed ++ closing x.state (length x.pending)
