-- The test of a sum, as code makes it.
use mathlib.Core.Path.{◌≡◌, sym, ◌∙◌}
use Prim.Native.Nat.{ℕ, zero, suc, ◌+◌}
use native.Mathlib.Omega.{arith}
use borrow.Author.Tests.{eq-eqb, ne_eqb}
use lib.Dec.{eqb}

-- what is left once s is taken from a total
pub none_left : (s total left : ℕ) → s + left ≡ total → eqb left 0 ≡ eqb s total
none_left s total zero h = sym (eq-eqb s total (omega arith))
none_left s total (suc left) h = ne_eqb (suc left) 0 (omega arith) ∙ sym (ne_eqb s total (omega arith))
