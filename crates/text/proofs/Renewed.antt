-- A buffer whose text was renewed.
use mathlib.Core.Path.{◌≡◌, sym}
use mathlib.Core.List.{List, ◌++◌, append_assoc}
use Prim.Native.Nat.{ℕ, zero, suc, ◌+◌, ◌-◌, ◌≤◌, max}
use native.Mathlib.Nat.{sub-zero}
use native.Mathlib.Omega.{arith}
use lib.ListN.{length, take, drop, replicate, length-append, length-drop, length-replicate, replicate-append-replicate, take-append-drop}
use lib.Seq.{take-append_seam, drop-append-add, drop-drop, length-take-le}
use Rattle.text.specs.Text.{renewed}

pub renewed-text : (b : List ℕ) (used : ℕ) (u : List ℕ) → take (length u) (renewed b used u) ≡ u
unfolding renewed
renewed-text b used u = take-append_seam u (replicate (used - length u) 0 ++ drop (max used (length u)) b)

pub renewed-length : (b : List ℕ) (used : ℕ) (u : List ℕ) → used ≤ length b → length u ≤ length b → length (renewed b used u) ≡ length b
unfolding renewed
renewed-length b used u h k = simp (length-append, length-replicate, length-drop) (omega arith)

pub renewed-same : (b : List ℕ) (used : ℕ) → used ≤ length b → b ≡ renewed b used (take used b)
unfolding renewed
renewed-same b used h =
    let l : length (take used b) ≡ used = length-take-le used b h in
    let z : used - used ≡ 0 = omega arith in
    let m : max used used ≡ used = omega arith in
    sym (rw (l, z, m) (take-append-drop used b))

drop-zeros : (k a : ℕ) (d : List ℕ) → drop k (replicate a 0 ++ d) ≡ replicate (a - k) 0 ++ drop (k - a) d
drop-zeros zero a d = let e : 0 - a ≡ 0 = omega arith in rw (sub-zero, e)
drop-zeros (suc k) zero d = let e : 0 - suc k ≡ 0 = omega arith in rw (e, sub-zero)
drop-zeros (suc k) (suc a) d =
    let e : suc a - suc k ≡ a - k = omega arith in
    let f : suc k - suc a ≡ k - a = omega arith in
    rw (e, f) (drop-zeros k a d)

-- how many zeros there are, and how much of the buffer is passed, after lengths n and then m
zeros : (U n m : ℕ) → n ≤ max U m → (n - m) + ((U - n) - (m - n)) ≡ U - m
zeros U n m h = omega arith

passed : (U n m : ℕ) → n ≤ max U m → max U n + ((m - n) - (U - n)) ≡ max U m
passed U n m h = omega arith

pub renewed-twice : (b : List ℕ) (used : ℕ) (u w : List ℕ) → length u ≤ max used (length w) → used ≤ length b → length w ≤ length b
    → renewed (renewed b used u) (length u) w ≡ renewed b used w
unfolding renewed
renewed-twice b used u w l h k =
    let n : ℕ = length u in
    let m : ℕ = length w in
    let e : max n m ≡ n + (m - n) = omega arith in
    rw (
      e,
      drop-append-add u (replicate (used - n) 0 ++ drop (max used n) b) (m - n),
      drop-zeros (m - n) (used - n) (drop (max used n) b),
      drop-drop,
      passed used n m l,
      ← append_assoc {A = ℕ} (replicate (n - m) 0),
      replicate-append-replicate {A = ℕ} (n - m) ((used - n) - (m - n)) 0,
      zeros used n m l,
    )
