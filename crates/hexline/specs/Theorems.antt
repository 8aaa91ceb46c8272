-- What is proved beside that the code meets its promises. The proofs stand in proofs/Theorems.antt.
use Rattle.std.specs.Prelude.{true, List, ◌≡◌, ℕ, ◌*◌, length, leb}
use Rattle.promise.specs.Settled.{Settles}
use Rattle.utf8.specs.Calls.{outcome}
use Rattle.text.specs.Text.{all}
use Rattle.hexline.specs.Digits.{hexed, unhexed, paired}
use Rattle.hexline.specs.Calls.{paper_unhexed, paper_hexed}
use Rattle.std.specs.Prelude.{Result, Ok, Err}
use Rattle.utf8.specs.declared.NoRoom.{NoRoom}
use Rattle.hexline.specs.declared.UnhexError.{UnhexError}
use Rattle.hexline.specs.declared.UnhexError.TheVariants as unhex_error

-- what is a byte
abbrev pub Bytes : List ℕ → Type 0
Bytes bs = all (λ b. leb b 255) bs ≡ true

-- Bytes come back from their digits, and digits from their bytes.
abbrev pub UnhexesHexed : Type 0
UnhexesHexed = (bs : List ℕ) → Bytes bs → (paired (hexed bs) ≡ true) × (unhexed (hexed bs) ≡ bs)

abbrev pub HexesUnhexed : Type 0
HexesUnhexed = (l : List ℕ) → paired l ≡ true → Bytes (unhexed l) × (hexed (unhexed l) ≡ l)

abbrev pub TwoDigits : Type 0
TwoDigits = (bs : List ℕ) → length (hexed bs) ≡ length bs * 2

-- Each public promise settles the answer and the lent slice.
pub record Settled : Type 0 where
  pub unhex : Settles {A = Result ℕ UnhexError × List ℕ} (λ o. outcome (paper_unhexed o.0) o.1)
  pub hex : Settles {A = Result ℕ NoRoom × List ℕ} (λ o. outcome (paper_hexed o.0) o.1)
