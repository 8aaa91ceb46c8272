-- A whole slice read, sequence by sequence.
use mathlib.Core.Path.{◌≡◌, refl, ap}
use mathlib.Core.List.{List, [], ◌∷◌}
use Prim.Native.Nat.{ℕ, zero, suc, ◌+◌, ◌≤◌, ◌<◌}
use native.Mathlib.Nat.{add-zero}
use native.Mathlib.Omega.{arith}
use lib.ListN.{length, take, drop}
use Rattle.promise.specs.Paper.{done}
use Rattle.utf8.specs.Rfc3629.{UTF8-char, taken, number}
use Rattle.utf8.specs.Reading.{Reading, scalars, bad_at, prepend, read_from}
use Rattle.utf8.specs.Calls.{counted, scalars_of}
use Rattle.utf8.proofs.Taken.{taken-le}

pub read_left : (s : List ℕ) (at left : ℕ) → left ≤ length s → read_from at left s ≡ read_from (at + left) 0 (drop left s)
unfolding read_from
read_left s at zero h = rw add-zero
read_left [] at (suc left) h = absurd (omega arith)
read_left (x ∷ s) at (suc left) h =
    let e : at + suc left ≡ suc at + left = omega arith in
    rw e (read_left s (suc at) left (omega arith))

pub read_found : (s : List ℕ) (at n : ℕ) → taken UTF8-char s ≡ suc n → read_from at 0 s ≡ prepend (number (take (suc n) s)) (read_from (at + suc n) 0 (drop (suc n) s))
unfolding read_from
read_found [] at n e = absurd (omega (arith, e, taken-le UTF8-char []))
read_found (x ∷ s) at n e =
    let k : suc n ≤ suc (length s) = rw e at (taken-le UTF8-char (x ∷ s)) in
    let f : at + suc n ≡ suc at + n = omega arith in
    rw (read_from, e, f) (ap (prepend (number (take (suc n) (x ∷ s)))) (read_left s (suc at) n (omega arith)))

pub read_lost : (s : List ℕ) (at : ℕ) → taken UTF8-char s ≡ 0 → 0 < length s → read_from at 0 s ≡ bad_at at
unfolding read_from
read_lost [] at e h = absurd (omega arith)
read_lost (x ∷ s) at e h = rw (read_from, e)

pub prepended : (v : ℕ) (r : Reading) (l : List ℕ) → prepend v r ≡ scalars l → (m : List ℕ) × (r ≡ scalars m) × (l ≡ v ∷ m)
unfolding prepend
prepended v (scalars m) l e = (m, refl, cc)
prepended v (bad_at i) l e = let z : ◌≡◌ {A = ℕ} 0 1 = cc in absurd (omega arith)

pub counted-done : (r : Reading) (n : ℕ) → done n ≡ counted r → (r ≡ scalars (scalars_of r)) × (length (scalars_of r) ≡ n)
unfolding counted scalars_of
counted-done (scalars cs) n e = (refl, cc)
counted-done (bad_at k) n e = let z : ◌≡◌ {A = ℕ} 0 1 = cc in absurd (omega arith)
