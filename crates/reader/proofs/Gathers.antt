-- Items of as many bytes each, gathered from the front.
use mathlib.Core.Path.{◌≡◌, sym, ap, ◌∙◌}
use mathlib.Core.List.{List, [], ◌∷◌, ◌++◌}
use Prim.Native.Nat.{ℕ, zero, suc, ◌+◌, ◌*◌, ◌/◌, ◌≤◌, ◌<◌}
use native.Mathlib.Nat.{zero-mul, le-div_iff_mul-le}
use native.Mathlib.Numerals.{add-one}
use native.Mathlib.Omega.{arith}
use native.Mathlib.Decide.{dec_le}
use lib.ListN.{length, drop, set, length-append, length-drop, get_or-append}
use lib.Seq.{drop-drop, drop-append_seam}
use Rattle.promise.specs.Slices.{over}
use Rattle.promise.proofs.Lists.{over-more}
use Rattle.frame.specs.Numbers.{number_in, items}
use Rattle.frame.proofs.Items.{length-items}

module _ (k : ℕ) (f : List ℕ → ℕ) where
  items-suc : (n : ℕ) (s : List ℕ) → items k (suc n) f s ≡ items k n f s ++ (f (drop (n * k) s) ∷ [])
  unfolding items
  items-suc zero s = rw zero-mul
  items-suc (suc n) s =
      let e : k + n * k ≡ suc n * k = omega arith in
      rw (items-suc n (drop k s), drop-drop (n * k) k s, e)

  -- a, what f finds in the next item, is stored behind the others
  pub items_more : (i : ℕ) (s out t : List ℕ) (a : ℕ) → t ≡ over (items k i f s) out → i < length out → a ≡ f (drop (i * k) s)
      → set t i a ≡ over (items k (i + 1) f s) out
  items_more i s out t a e h q = rw (over-more t (items k i f s) out i a e (length-items k f i s) h, add-one, items-suc i s, q)

-- What n chunks of `size` bytes each gave is stored in t, and `rest` is still to come.
abbrev pub Gathered : ℕ → (List ℕ → ℕ) → List ℕ → List ℕ → ℕ → ℕ → List ℕ → List ℕ → Type 0
Gathered k f s out size n rest t = (size ≡ k) × (n * k ≤ length s) × (rest ≡ drop (n * k) s) × (t ≡ over (items k n f s) out)

module _ (k : ℕ) (f : List ℕ → ℕ) (s out : List ℕ) (size n : ℕ) (rest t : List ℕ) where
  pub gathers-none : size ≡ k → n ≡ 0 → rest ≡ s → t ≡ out → Gathered k f s out size n rest t
  unfolding items
  gathers-none e z r q = rw (z, zero-mul) (e, omega arith, r, q)

  module _ (g : Gathered k f s out size n rest t) (positive : 0 < k) where
    pub gathers-all : length rest < size → t ≡ over (items k (length s / k) f s) out
    gathers-all h =
        let l : length s < suc n * k = omega (arith, g.0, g.1, length-drop (n * k) s, ap length g.2) in
        let a : n ≤ length s / k = (le-div_iff_mul-le positive).1 g.1 in
        let b : length s / k ≤ n = elim (dec_le (suc n) (length s / k)) [ yes y ↦ absurd (omega (arith, (le-div_iff_mul-le positive).0 y)) | no y ↦ omega arith ] in
        let e : n ≡ length s / k = omega arith in
        rw e at g.3

    -- x is the next chunk
    module _ (x r : List ℕ) (d : rest ≡ x ++ r) (l : length x ≡ size) where
      chunk-within : suc n * k ≤ length s
      chunk-within = omega (arith, g.0, g.1, length-drop (n * k) s, ap length g.2, ap length d, length-append x r)

      pub chunk-counts : n < length s / k
      chunk-counts = (le-div_iff_mul-le positive).1 chunk-within

      pub gathers-more : (i m size' a : ℕ) → i ≡ n → m ≡ n + 1 → size' ≡ size → n < length out → a ≡ f (x ++ r) → Gathered k f s out size' m r (set t i a)
      gathers-more i m size' a e q z h v =
          let w : (n + 1) * k ≡ n * k + k = omega arith in
          let u : length x ≡ k = l ∙ g.0 in
          let c : drop (n * k + k) s ≡ r = sym (drop-drop k (n * k) s) ∙ ap (drop k) (sym g.2 ∙ d) ∙ ap (λ (j : ℕ). drop j (x ++ r)) (sym u) ∙ drop-append_seam x r in
          rw (e, q) (z ∙ g.0, omega (arith, chunk-within), rw w (sym c), items_more k f n s out t a g.3 h (v ∙ ap f (sym d ∙ g.2)))

-- a chunk's number, and its byte
pub number-in_front : (x r : List ℕ) (i : ℕ) → i + 4 ≤ length x → number_in x i ≡ number_in (x ++ r) i
unfolding number_in
number-in_front x r i h =
    rw (get_or-append x r 0 i (omega arith), get_or-append x r 0 (i + 1) (omega arith), get_or-append x r 0 (i + 2) (omega arith), get_or-append x r 0 (i + 3) (omega arith))
