-- A search in ascending numbers, and the ranges between them.
use mathlib.Core.Path.{◌≡◌, refl, ◌∙◌}
use mathlib.Core.Bool.{Bool, true, false, cond, ◌&&◌, ◌||◌}
use mathlib.Core.List.{List, [], ◌∷◌}
use mathlib.Core.Logic.{⊎_elim}
use Prim.Native.Nat.{ℕ, zero, suc, ◌-◌, ◌%◌, ◌≤◌, ◌<◌}
use native.Mathlib.Nat.{le_of_suc-le-suc, not-suc-le-zero}
use native.Mathlib.Decide.{dec_lt}
use native.Mathlib.Omega.{arith}
use borrow.Author.Tests.{le-leb, lt-leb, leb-true, leb-false, ltb-true}
use lib.Dec.{leb, ltb}
use lib.ListN.{length, get_or}
use Rattle.std.specs.List.{AllWithin}
use Rattle.std.specs.List.Sorted.{IsPartitionedBy, IsPartitionPoint}
use Rattle.std.proofs.lemmas.List.{get_or_default}
use Rattle.std.proofs.lemmas.List.Sorted.{IsPartitionedBy-leb}
use Rattle.promise.proofs.Bools.{both}
use Rattle.utf8.specs.Rfc3629.{Range}
use Rattle.utf8.proofs.Numbers.{at_most}
use Rattle.cells.specs.Wide.{wide_in, edges, ascends, count_up_to, odd}
use Rattle.cells.specs.Theorems.{TableAscends, SearchAgrees}

-- the second is over the first, and what follows the first ascends too
pub first_less : (x y : ℕ) (s : List ℕ) → ascends (x ∷ y ∷ s) ≡ true → x < y
unfolding ascends
first_less x y s e = ltb-true x y (both (ltb x y) (ascends (y ∷ s)) e).0

pub tail_ascends : (x : ℕ) (s : List ℕ) → ascends (x ∷ s) ≡ true → ascends s ≡ true
unfolding ascends
tail_ascends x [] e = refl
tail_ascends x (y ∷ s) e = (both (ltb x y) (ascends (y ∷ s)) e).1

-- where the first is over v, none behind it is at most v, and none with it
none_behind : (v x : ℕ) (s : List ℕ) → ascends (x ∷ s) ≡ true → v < x → count_up_to v s ≡ 0
unfolding count_up_to
none_behind v x [] e h = refl
none_behind v x (y ∷ s) e h =
    let k : x < y = first_less x y s e in
    let j : v < y = omega arith in
    rw (lt-leb y v j) (none_behind v y s (tail_ascends x (y ∷ s) e) j)

pub none_upto : (v x : ℕ) (s : List ℕ) → ascends (x ∷ s) ≡ true → v < x → count_up_to v (x ∷ s) ≡ 0
unfolding count_up_to
none_upto v x s e h = rw (lt-leb x v h) (none_behind v x s e h)

-- an entry over v has none counted from it on
pub over-entry : (v k : ℕ) (t : List ℕ) → ascends t ≡ true → k < length t → v < get_or t k 0 → count_up_to v t ≤ k
unfolding count_up_to
over-entry v k [] e l h = absurd (not-suc-le-zero l)
over-entry v zero (x ∷ s) e l h = let q : count_up_to v (x ∷ s) ≡ 0 = none_upto v x s e h in omega arith
over-entry v (suc k) (x ∷ s) e l h = go (leb x v) (over-entry v k s (tail_ascends x s e) (le_of_suc-le-suc l) h)
  where
    go : (b : Bool) → count_up_to v s ≤ k → cond b (suc (count_up_to v s)) (count_up_to v s) ≤ suc k
    go true i = omega arith
    go false i = omega arith

-- an entry behind the first is over it
first_least : (x k : ℕ) (s : List ℕ) → ascends (x ∷ s) ≡ true → k < length s → x < get_or s k 0
first_least x k [] e l = absurd (not-suc-le-zero l)
first_least x zero (y ∷ s) e l = first_less x y s e
first_least x (suc k) (y ∷ s) e l =
    let a : x < y = first_less x y s e in
    let b : y < get_or s k 0 = first_least y k s (tail_ascends x (y ∷ s) e) (le_of_suc-le-suc l) in
    omega arith

-- an entry at most v is counted, with all before it
pub upto-entry : (v k : ℕ) (t : List ℕ) → ascends t ≡ true → k < length t → get_or t k 0 ≤ v → suc k ≤ count_up_to v t
unfolding count_up_to
upto-entry v k [] e l h = absurd (not-suc-le-zero l)
upto-entry v zero (x ∷ s) e l h = rw (le-leb x v h) (omega arith)
upto-entry v (suc k) (x ∷ s) e l h =
    let a : x < get_or s k 0 = first_least x k s e (le_of_suc-le-suc l) in
    let i : suc k ≤ count_up_to v s = upto-entry v k s (tail_ascends x s e) (le_of_suc-le-suc l) h in
    let b : x ≤ v = omega arith in
    rw (le-leb x v b) (omega arith)

-- so many are counted where v stands between two entries
pub between_entries : (v k : ℕ) (t : List ℕ) → ascends t ≡ true → (k ≡ 0 → ⊥) → k < length t → (leb (get_or t (k - 1) 0) v && ltb v (get_or t k 0)) ≡ true → k ≡ count_up_to v t
between_entries v k t e z l h =
    let b = both (leb (get_or t (k - 1) 0) v) (ltb v (get_or t k 0)) h in
    let low : suc (k - 1) ≤ count_up_to v t = upto-entry v (k - 1) t e (omega arith) (leb-true (get_or t (k - 1) 0) v b.0) in
    let high : count_up_to v t ≤ k = over-entry v k t e l (ltb-true v (get_or t k 0) b.1) in
    omega arith

-- no more are counted than there are
pub upto-length : (v : ℕ) (t : List ℕ) → count_up_to v t ≤ length t
unfolding count_up_to
upto-length v [] = omega arith
upto-length v (x ∷ s) = go (leb x v) (upto-length v s)
  where
    go : (b : Bool) → count_up_to v s ≤ length s → cond b (suc (count_up_to v s)) (count_up_to v s) ≤ suc (length s)
    go true i = omega arith
    go false i = omega arith

-- an entry is no less than one before it
entries_ascend : (t : List ℕ) → ascends t ≡ true → (i j d : ℕ) → i ≤ j → j < length t → get_or t i d ≤ get_or t j d
entries_ascend [] e i j d h l = absurd (not-suc-le-zero l)
entries_ascend (x ∷ s) e zero zero d h l = omega arith
entries_ascend (x ∷ s) e zero (suc j) d h l = omega (arith, first_least x j s e (le_of_suc-le-suc l), get_or_default s j d 0 (le_of_suc-le-suc l))
entries_ascend (x ∷ s) e (suc i) zero d h l = absurd (omega arith)
entries_ascend (x ∷ s) e (suc i) (suc j) d h l = entries_ascend s (tail_ascends x s e) i j d (omega arith) (le_of_suc-le-suc l)

pub parted : (v : ℕ) (t : List ℕ) → ascends t ≡ true → IsPartitionedBy (λ y. leb y v) t
parted v t e = IsPartitionedBy-leb (λ y. y) t v (entries_ascend t e)

-- where those at most v end, so many are counted
pub point_counts : (v k : ℕ) (t : List ℕ) → ascends t ≡ true → k ≤ length t → IsPartitionPoint (λ y. leb y v ≡ true) (λ y. leb y v ≡ false) t k → k ≡ count_up_to v t
point_counts v k t e l p =
    let low : k ≤ count_up_to v t = below k l p.0 in
    let high : count_up_to v t ≤ k =
    elim (dec_lt k (length t)) [ yes h ↦ over-entry v k t e h (leb-false (get_or t k 0) v (p.1 k 0 (omega arith) h)) | no h ↦ omega (arith, upto-length v t) ] in
    omega arith
  where
    below : (k : ℕ) → k ≤ length t → AllWithin (λ y. leb y v ≡ true) t 0 k → k ≤ count_up_to v t
    below zero l q = omega arith
    below (suc m) l q = upto-entry v m t e l (leb-true (get_or t m 0) v (q m 0 (omega arith) (omega arith)))

-- two entries more
odd-two : (n : ℕ) → odd (suc (suc n)) ≡ odd n
odd-two n = let e : suc (suc n) % 2 ≡ n % 2 = omega arith in rw e

-- one range before others: v stands before it, in it, or behind it
module _ (rs : List Range) (v a b : ℕ) (h : a < suc b) (k : ascends (suc b ∷ edges rs) ≡ true) (ih : odd (count_up_to v (edges rs)) ≡ wide_in rs v) where
  stands_before : v < a → odd (count_up_to v (a ∷ suc b ∷ edges rs)) ≡ ((leb a v && leb v b) || wide_in rs v)
  unfolding count_up_to
  stands_before q =
      let n : v < suc b = omega arith in
      rw (lt-leb a v q, lt-leb (suc b) v n) ih

  stands_in : a ≤ v → v ≤ b → odd (count_up_to v (a ∷ suc b ∷ edges rs)) ≡ ((leb a v && leb v b) || wide_in rs v)
  unfolding count_up_to
  stands_in q p =
      let n : v < suc b = omega arith in
      rw (le-leb a v q, le-leb v b p, lt-leb (suc b) v n, none_behind v (suc b) (edges rs) k n)

  stands_behind : a ≤ v → b < v → odd (count_up_to v (a ∷ suc b ∷ edges rs)) ≡ ((leb a v && leb v b) || wide_in rs v)
  unfolding count_up_to
  stands_behind q p =
      let n : suc b ≤ v = omega arith in
      rw (le-leb a v q, lt-leb v b p, le-leb (suc b) v n) (odd-two (count_up_to v (edges rs)) ∙ ih)

  one_more : odd (count_up_to v (a ∷ suc b ∷ edges rs)) ≡ ((leb a v && leb v b) || wide_in rs v)
  one_more = ⊎_elim (λ q. ⊎_elim (stands_in q) (stands_behind q) (at_most v b)) stands_before (at_most a v)

-- the count is odd exactly in a range
pub search_agrees : SearchAgrees
unfolding edges wide_in count_up_to
search_agrees [] v e = refl
search_agrees (r ∷ rs) v e =
    let k : ascends (suc r.1 ∷ edges rs) ≡ true = tail_ascends r.0 (suc r.1 ∷ edges rs) e in
    one_more rs v r.0 r.1 (first_less r.0 (suc r.1) (edges rs) e) k (search_agrees rs v (tail_ascends (suc r.1) (edges rs) k))

-- computed once, over the whole table
pub table_ascends : TableAscends
unfolding edges ascends
table_ascends = refl
