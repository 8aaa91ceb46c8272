-- The rules of the ABNF at the head of some octets.
use mathlib.Core.Path.{◌≡◌, refl}
use mathlib.Core.Bool.{Bool, true, false, cond, ◌&&◌, false≢true}
use mathlib.Core.List.{List, [], ◌∷◌}
use Prim.Native.Nat.{ℕ, ◌<◌, ◌≤◌}
use native.Mathlib.Omega.{arith}
use borrow.Author.Tests.{leb-true}
use lib.Dec.{leb}
use lib.ListN.{length}
use Rattle.promise.proofs.Bools.{both}
use Rattle.utf8.specs.Rfc3629.{Range, within, begins, taken}

-- a row takes no more octets than there are
begins-le : (row : List Range) (s : List ℕ) → begins row s ≡ true → length row ≤ length s
unfolding begins
begins-le [] s e = omega arith
begins-le (r ∷ row) [] e = let z : false ≡ true = e in absurd (false≢true z)
begins-le (r ∷ row) (x ∷ s) e = let k = begins-le row s (both (within r x) (begins row s) e).1 in omega arith

begins-short : (row : List Range) (s : List ℕ) → length s < length row → begins row s ≡ false
begins-short row s h = go (begins row s) refl
  where
    go : (b : Bool) → begins row s ≡ b → b ≡ false
    go true e = let k = begins-le row s e in absurd (omega arith)
    go false e = refl

-- every row has n ranges or more
abbrev pub long_rows : ℕ → List (List Range) → Bool
long_rows n [] = true
long_rows n (row ∷ rows) = leb n (length row) && long_rows n rows

pub taken-short : (n : ℕ) (rule : List (List Range)) (s : List ℕ) → long_rows n rule ≡ true → length s < n → taken rule s ≡ 0
unfolding taken
taken-short n [] s e h = refl
taken-short n (row ∷ rows) s e h =
    let b = both (leb n (length row)) (long_rows n rows) e in
    let k : n ≤ length row = leb-true _ _ b.0 in
    rw (begins-short row s (omega arith)) (taken-short n rows s b.1 h)

pub taken-le : (rule : List (List Range)) (s : List ℕ) → taken rule s ≤ length s
unfolding taken
taken-le [] s = omega arith
taken-le (row ∷ rows) s = go (begins row s) refl (taken-le rows s)
  where
    go : (b : Bool) → begins row s ≡ b → taken rows s ≤ length s → cond b (length row) (taken rows s) ≤ length s
    go true e k = begins-le row s e
    go false e k = k
