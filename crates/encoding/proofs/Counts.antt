-- The octets counted: k are behind, and those of l are still to come.
use mathlib.Core.Path.{◌≡◌, sym, ap, ◌∙◌}
use mathlib.Core.Bool.{true, cond}
use mathlib.Core.List.{List, ◌++◌}
use Prim.Native.Nat.{ℕ, ◌+◌, ◌≤◌, ◌<◌}
use native.Mathlib.Nat.{add-zero, zero-add}
use native.Mathlib.Omega.{arith}
use lib.ListN.{length, drop, get_or, length-append, drop_of_length-le}
use Rattle.promise.specs.Paper.{Paper, done, refused}
use Rattle.promise.proofs.Lists.{next}
use Rattle.utf8.specs.Rfc3629.{scalar, octets}
use Rattle.utf8.specs.Reading.{all_scalar, writing}
use Rattle.utf8.specs.Calls.{sequence_of, octets_in, octet_count}
use Rattle.utf8.proofs.Numbers.{octets-len}
use Rattle.encoding.proofs.Sequences.{no_octets, some_octets, octets-in}

abbrev pub counting : ℕ → List ℕ → Paper ℕ
counting k l = cond (all_scalar l) (done (k + length (writing l))) (refused 1 0)

pub count_none : (cs : List ℕ) → counting 0 cs ≡ octet_count cs
unfolding octet_count
count_none cs = rw zero-add

module _ (cs : List ℕ) (i k n : ℕ) (h : i < length cs) (e : n ≡ length (octets_in (sequence_of (get_or cs i 0)))) (inv : counting k (drop i cs) ≡ octet_count cs) where
  pub count_again : (n ≡ 0 → ⊥) → (n ≤ 4) × (counting (k + n) (drop (i + 1) cs) ≡ octet_count cs)
  unfolding all_scalar writing
  count_again z =
      let s : scalar (get_or cs i 0) ≡ true = some_octets (get_or cs i 0) (λ q. z (e ∙ q)) in
      let f : n ≡ length (octets (get_or cs i 0)) = e ∙ ap length (octets-in (get_or cs i 0) s) in
      let r : List ℕ = writing (drop (i + 1) cs) in
      let g : k + length (octets (get_or cs i 0) ++ r) ≡ k + n + length r = simp length-append (omega arith) in
      (omega (arith, (octets-len (get_or cs i 0)).1), rw (← g) (rw (next cs i h, s) at inv))

  pub count_bad : n ≡ 0 → refused 1 0 ≡ octet_count cs
  unfolding all_scalar
  count_bad z = rw (next cs i h, no_octets (get_or cs i 0) (sym e ∙ z)) at inv

pub count_all : (cs : List ℕ) (i k : ℕ) → length cs ≤ i → counting k (drop i cs) ≡ octet_count cs → done k ≡ octet_count cs
unfolding all_scalar writing
count_all cs i k h inv = rw (drop_of_length-le cs h, add-zero) at inv
