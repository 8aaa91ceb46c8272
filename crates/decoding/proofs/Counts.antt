-- The scalars counted: k are behind, and those of r are still to come.
use mathlib.Core.Path.{◌≡◌, refl, sym, ap, ◌∙◌}
use mathlib.Core.List.{List}
use Prim.Native.Nat.{ℕ, suc, ◌+◌, ◌≤◌, ◌<◌}
use native.Mathlib.Nat.{add-zero, zero-add}
use native.Mathlib.Omega.{arith}
use lib.ListN.{length, drop}
use Rattle.promise.specs.Paper.{Paper, done, refused}
use Rattle.utf8.specs.Rfc3629.{UTF8-char}
use Rattle.utf8.specs.Reading.{Reading, scalars, bad_at, prepend, read_from, reading}
use Rattle.utf8.specs.Calls.{step_by, counted}
use Rattle.sequences.proofs.Steps.{step-done, step-refused, read_end}

abbrev pub counting : ℕ → Reading → Paper ℕ
counting k (scalars cs) = done (k + length cs)
counting k (bad_at i) = refused 5 i

pub count_none : (r : Reading) → counting 0 r ≡ counted r
unfolding counted
count_none (scalars cs) = rw zero-add
count_none (bad_at i) = refl

pub count_one : (k v : ℕ) (r : Reading) → counting k (prepend v r) ≡ counting (k + 1) r
unfolding prepend
count_one k v (scalars cs) = let e : k + suc (length cs) ≡ k + 1 + length cs = omega arith in rw e
count_one k v (bad_at i) = refl

module _ (s : List ℕ) (i k : ℕ) (inv : counting k (read_from i 0 (drop i s)) ≡ counted (reading s)) where
  pub count_again : (v j : ℕ) → done (v, j) ≡ step_by UTF8-char s i → i ≤ length s → k ≤ i
      → (j ≤ length s) × (k + 1 ≤ j) × (i < j) × (counting (k + 1) (read_from j 0 (drop j s)) ≡ counted (reading s))
  count_again v j e h l =
      let d = step-done s i v j e h in
      (d.2, omega arith, d.1, sym (count_one k v (read_from j 0 (drop j s))) ∙ ap (counting k) (sym d.0) ∙ inv)

  pub count_bad : (x : ℕ) → refused 5 x ≡ step_by UTF8-char s i → i < length s → refused 5 i ≡ counted (reading s)
  count_bad x e h = sym (ap (counting k) (step-refused s i x e h)) ∙ inv

  pub count_all : length s ≤ i → done k ≡ counted (reading s)
  count_all h = rw add-zero at (sym (ap (counting k) (read_end s i h)) ∙ inv)
