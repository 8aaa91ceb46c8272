-- Flag bytes, one in each chunk of five.
use mathlib.Core.Path.{◌≡◌, refl, sym, ap, ◌∙◌}
use mathlib.Core.Bool.{Bool, true, false, ◌&&◌}
use mathlib.Core.List.{List, [], ◌∷◌, ◌++◌}
use Prim.Native.Nat.{ℕ, zero, suc, ◌/◌, ◌%◌, ◌≤◌, ◌<◌}
use native.Mathlib.Omega.{arith}
use borrow.Author.Tests.{eq-eqb, le-leb, lt-leb}
use lib.Dec.{leb}
use lib.ListN.{length, drop, get_or, length-append, length-drop, get_or-append}
use lib.Seq.{drop-append_seam}
use Rattle.std.specs.Bool.{MatchBool}
use Rattle.std.specs.Iterator.{AlwaysYields}
use Rattle.std.specs.List.{AllWithin, HoldsAt}
use Rattle.std.specs.Slice.Iter.{chunks_exact_rest, chunks_exact_size, chunks_exact_steps}
use Rattle.std.proofs.lemmas.Iterator.{YieldsList}
use Rattle.text.specs.Text.{all}
use Rattle.frame.specs.Numbers.{items}
use Rattle.frame.specs.Forms.{flagged, flags_in}

flag_chunks : (n : ℕ) (xs : List ℕ) (s : _) → chunks_exact_rest s ≡ xs → chunks_exact_size s ≡ 5 → length xs / 5 ≡ n
    → AlwaysYields chunks_exact_steps (λ y. get_or y.now 4 0) s (items 5 n (λ t. get_or t 4 0) xs)
unfolding items
flag_chunks zero xs s e z h = λ x j p. omega (arith, ap length e, ap length p.1.0, length-append x.now (chunks_exact_rest j), p.1.1)
flag_chunks (suc n) xs s e z h = (
  λ j p. omega (arith, ap length e, p.1.0),
  λ x j p.
      let q : xs ≡ x.now ++ chunks_exact_rest j = sym e ∙ p.1.0 in
      let l : length x.now ≡ 5 = p.1.1 ∙ z in
      let t : drop 5 xs ≡ chunks_exact_rest j = rw (q, ← l) (drop-append_seam x.now (chunks_exact_rest j)) in
      let f : get_or x.now 4 0 ≡ get_or xs 4 0 = rw q (sym (get_or-append x.now (chunks_exact_rest j) 0 4 (omega arith))) in
      (f, flag_chunks n (drop 5 xs) j (sym t) (p.0 ∙ z) (omega (arith, length-drop 5 xs))),
)

pub flags_come : (xs : List ℕ) (s : _) → chunks_exact_rest s ≡ xs → chunks_exact_size s ≡ 5 → YieldsList chunks_exact_steps (λ y. get_or y.now 4 0) s (flags_in xs)
unfolding flags_in
flags_come xs s e z = record { runs = flag_chunks (length xs / 5) xs s e z refl }

-- what a search for a flag over 1 tells of them all
all_low : (xs : List ℕ) → AllWithin (λ (x : ℕ). x ≤ 1) xs 0 (length xs) → true ≡ all (λ b. leb b 1) xs
unfolding all
all_low [] m = refl
all_low (x ∷ xs) m = rw (le-leb x 1 (m 0 0 (omega arith) (omega arith))) (all_low xs (λ k d l h. m (suc k) d (omega arith) (omega arith)))

one_high : (xs : List ℕ) (k : ℕ) → k < length xs → HoldsAt (λ (x : ℕ). 1 < x) xs k → false ≡ all (λ b. leb b 1) xs
unfolding all
one_high [] k l h = absurd (omega arith)
one_high (x ∷ xs) zero l h = rw (lt-leb x 1 (h 0))
one_high (x ∷ xs) (suc k) l h = go (leb x 1) (one_high xs k (omega arith) h)
  where
    go : (b : Bool) → false ≡ all (λ b. leb b 1) xs → false ≡ (b && all (λ b. leb b 1) xs)
    go true e = e
    go false e = refl

pub flagged_by : (s : List ℕ) (r : Bool) → length s % 5 ≡ 0
    → MatchBool r (AllWithin (λ (x : ℕ). x ≤ 1) (flags_in s) 0 (length (flags_in s))) ((k : ℕ) × (k < length (flags_in s)) × HoldsAt (λ (x : ℕ). 1 < x) (flags_in s) k) → r ≡ flagged s
unfolding flagged
flagged_by s true e m = rw (eq-eqb (length s % 5) 0 e) (all_low (flags_in s) m)
flagged_by s false e m = rw (eq-eqb (length s % 5) 0 e) (one_high (flags_in s) m.0 m.1 m.2)
