-- A run of ASCII octets, read as one.
use mathlib.Core.Path.{◌≡◌, refl, sym, ap, ◌∙◌}
use mathlib.Core.Bool.{Bool, true, false, ◌&&◌, ◌||◌}
use mathlib.Core.List.{List, ◌++◌}
use mathlib.Core.Logic.{⊎_elim}
use Prim.Native.Nat.{ℕ, zero, suc, ◌+◌, ◌-◌, ◌≤◌, ◌<◌}
use native.Mathlib.Nat.{add-zero, eq-or-lt_of_le}
use native.Mathlib.Numerals.{add-one}
use native.Mathlib.Omega.{arith}
use borrow.Author.Tests.{leb-true, ltb-false}
use lib.Dec.{leb, ltb}
use lib.ListN.{length, take, drop, get_or, set, length-take, length-drop}
use lib.Seq.{get_or-drop, get_or-take, paste, paste-zero, paste-suc}
use Rattle.promise.proofs.Bools.{both, neither}
use Rattle.utf8.specs.Reading.{scalars, read_from}
use Rattle.sequences.proofs.Steps.{ascii, step-done}
use Rattle.decoding.proofs.Counts.{counting, count_one}
use Rattle.decoding.proofs.Fills.{fill_again}

-- n octets from i on
abbrev pub Ascii : List ℕ → ℕ → ℕ → Type 0
Ascii s i n = (k : ℕ) → k < n → get_or s (i + k) 0 ≤ 0x7F

-- the n octets from i on, as they are lent
module _ (s : List ℕ) (i n : ℕ) (h : i + n ≤ length s) where
  pub lent_long : length (take (i + n - i) (drop i s)) ≡ n
  lent_long = omega (arith, length-take (i + n - i) (drop i s), length-drop i s)

  pub lent_at : (k : ℕ) → k < n → get_or (take (i + n - i) (drop i s)) k 0 ≡ get_or s (i + k) 0
  lent_at k l = let e : k < i + n - i = omega arith in rw (get_or-take, get_or-drop)

pub ascii_more : (s : List ℕ) (i n x : ℕ) (all : Bool) → x ≡ get_or s (i + n) 0 → (all ≡ true → Ascii s i n) → (all && leb x 0x7F) ≡ true → Ascii s i (n + 1)
ascii_more s i n x all d f e k h =
    let b = both all (leb (get_or s (i + n) 0) 0x7F) (rw d at e) in
    ⊎_elim (λ q. rw q (leb-true _ _ b.1)) (λ lt. f b.0 k lt) (eq-or-lt_of_le {n = k} {m = n} (omega arith))

-- they are the scalars that they count and fill
pub count_run : (s : List ℕ) (i k n : ℕ) → Ascii s i n → i + n ≤ length s
    → counting k (read_from i 0 (drop i s)) ≡ counting (k + n) (read_from (i + n) 0 (drop (i + n) s))
count_run s i k zero a h = rw (add-zero i, add-zero k)
count_run s i k (suc n) a h =
    let e : i + suc n ≡ i + n + 1 = omega arith in
    let f : k + suc n ≡ k + n + 1 = omega arith in
    let d = step-done s (i + n) (get_or s (i + n) 0) (i + n + 1) (ascii s (i + n) (get_or s (i + n) 0) (omega arith) (a n (omega arith)) refl) (omega arith) in
    rw (e, f) (count_run s i k n (λ j l. a j (omega arith)) (omega arith) ∙ ap (counting (k + n)) d.0 ∙ count_one (k + n) (get_or s (i + n) 0) (read_from (i + n + 1) 0 (drop (i + n + 1) s)))

pub paste_more : (b s t : List ℕ) (i c k x : ℕ) → t ≡ paste b c (drop i s) k → x ≡ get_or s (i + k) 0 → c + k < length b → i + k < length s
    → set t (c + k) x ≡ paste b c (drop i s) (k + 1)
paste_more b s t i c k x e f h l =
    rw (e, f, add-one k) (ap (set (paste b c (drop i s) k) (c + k)) (sym (get_or-drop i s k 0)) ∙ paste-suc b c (drop i s) k 0 h (simp length-drop (omega arith)))

-- n octets stored at once
abbrev pub Pasted : List ℕ → List ℕ → List ℕ → List ℕ → ℕ → ℕ → ℕ → Type 0
Pasted s cs b t i k n =
    (k + n ≤ length cs) × (read_from (i + n) 0 (drop (i + n) s) ≡ scalars (drop (k + n) cs)) × (paste t k (drop i s) n ≡ take (k + n) cs ++ drop (k + n) b)

pub fill_run : (s cs b t : List ℕ) (i k n : ℕ) → read_from i 0 (drop i s) ≡ scalars (drop k cs) → t ≡ take k cs ++ drop k b → k ≤ length cs → length cs ≤ length b
    → length t ≡ length b → Ascii s i n → i + n ≤ length s → Pasted s cs b t i k n
fill_run s cs b t i k zero inv f l room lt a h =
    (omega arith, rw (add-zero i, add-zero k) inv, sym (paste-zero t k (drop i s)) ∙ f ∙ ap (λ (n : ℕ). take n cs ++ drop n b) (sym (add-zero k)))
fill_run s cs b t i k (suc n) inv f l room lt a h =
    let r = fill_run s cs b t i k n inv f l room lt (λ j m. a j (omega arith)) (omega arith) in
    let x : ℕ = get_or s (i + n) 0 in
    let g = fill_again s cs (i + n) (k + n) r.1 b (paste t k (drop i s) n) x (i + n + 1) (ascii s (i + n) x (omega arith) (a n (omega arith)) refl) (omega arith) room r.2 in
    let e : i + suc n ≡ i + n + 1 = omega arith in
    let q : k + suc n ≡ k + n + 1 = omega arith in
    let p : paste t k (drop i s) (suc n) ≡ set (paste t k (drop i s) n) (k + n) x =
    sym (paste-suc t k (drop i s) n 0 (omega arith) (simp length-drop (omega arith))) ∙ ap (set (paste t k (drop i s) n) (k + n)) (get_or-drop i s n 0) in
    (omega arith, rw (e, q) g.3, p ∙ rw q g.4)

-- a block is asked for only where there are sixteen octets
pub block_room : (n m : ℕ) (off : Bool) → (off || ltb (n - m) 16) ≡ false → m < n → m + 16 ≤ n
block_room n m off e h = let k : 16 ≤ n - m = ltb-false (n - m) 16 (neither off (ltb (n - m) 16) e).1 in omega arith
