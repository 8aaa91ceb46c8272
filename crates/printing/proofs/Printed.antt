-- How long a line is, and a line of one byte.
use mathlib.Core.Path.{◌≡◌, ap}
use mathlib.Core.List.{List, [], ◌∷◌}
use Prim.Native.Nat.{ℕ, ◌+◌, ◌*◌, ◌≤◌}
use native.Mathlib.Omega.{arith}
use borrow.Author.Tests.{le-ltb}
use lib.ListN.{length, set, length-append}
use Rattle.promise.specs.Paper.{Paper}
use Rattle.promise.specs.Slices.{over}
use Rattle.utf8.specs.Calls.{Outcome, outcome, stored}
use Rattle.edit.specs.declared.Refusal.{Refusal}
use Rattle.edit.specs.declared.Refusal.TheVariants.{BadText, TooBig, TooMany, BadPayload, BadUtf8, Reversed, BeyondRow, NoRoom, NoRecord, BadFrame}
use Rattle.edit.specs.Call.{number_of}
use Rattle.hexline.specs.Digits.{hexed}
use Rattle.hexline.specs.Calls.{digits_into}
use Rattle.hexline.proofs.Theorems.{two_digits}
use Rattle.printing.specs.Prints.{printed_as}

pub printed-length : (bs : List ℕ) → length (printed_as bs) ≡ length bs * 2 + 1
printed-length bs = rw length-append (omega (arith, two_digits bs))

pub number-byte : (r : Refusal) → number_of r ≤ 255
number-byte BadText = omega arith
number-byte TooBig = omega arith
number-byte TooMany = omega arith
number-byte BadPayload = omega arith
number-byte (BadUtf8 at) = omega arith
number-byte Reversed = omega arith
number-byte BeyondRow = omega arith
number-byte NoRoom = omega arith
number-byte NoRecord = omega arith
number-byte BadFrame = omega arith

pub byte_line : (b : ℕ) (out t : List ℕ) (p : Paper ℕ) → 3 ≤ length out → outcome p t ≡ digits_into (b ∷ []) out → set t 2 10 ≡ over (printed_as (b ∷ [])) out
unfolding digits_into stored hexed
byte_line b [] t p h e = absurd (omega arith)
byte_line b (x ∷ []) t p h e = absurd (omega arith)
byte_line b (x ∷ y ∷ []) t p h e = absurd (omega arith)
byte_line b (x ∷ y ∷ z ∷ out) t p h e = ap (λ (o : Outcome). set o.out 2 10) (rw (le-ltb (length (x ∷ y ∷ z ∷ out)) 2 (omega arith)) at e)
