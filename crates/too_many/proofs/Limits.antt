-- The test of the joins that a join would make, as code makes it.
use mathlib.Core.Path.{◌≡◌, refl, sym}
use mathlib.Core.Bool.{Bool, true, false, ◌||◌}
use Prim.Native.Nat.{ℕ, min, max}
use native.Mathlib.Omega.{arith}
use borrow.Author.Tests.{le-leb, lt-leb, leb-true, leb-false}
use lib.Dec.{leb}

-- of m rows below: 256 at most
pub few-joins : (n m : ℕ) → (leb n 256 || leb m 256) ≡ leb (min (max n 1) m) 256
few-joins n m = go (leb n 256) (leb m 256) refl refl
  where
    go : (a b : Bool) → leb n 256 ≡ a → leb m 256 ≡ b → (a || b) ≡ leb (min (max n 1) m) 256
    go true b e f = sym (le-leb (min (max n 1) m) 256 (omega (arith, leb-true n 256 e)))
    go false true e f = sym (le-leb (min (max n 1) m) 256 (omega (arith, leb-true m 256 f)))
    go false false e f = sym (lt-leb (min (max n 1) m) 256 (omega (arith, leb-false n 256 e, leb-false m 256 f)))
