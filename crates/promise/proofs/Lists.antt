-- Laws of lists that the toolchain's library lacks.
use mathlib.Core.Path.{◌≡◌, refl, sym, ◌∙◌, ap, ap₂, subst}
use mathlib.Core.Logic.{◌⊎◌, inl, inr, ⊎_elim}
use mathlib.Core.List.{List, [], ◌∷◌, ◌++◌, append-nil, append_assoc}
use Prim.Native.Nat.{ℕ, zero, suc, ◌+◌, ◌-◌, ◌≤◌, ◌<◌, min}
use native.Mathlib.Nat.{add-zero, sub-zero, min-eq_left, min-eq_right}
use native.Mathlib.Decide.{dec_le}
use native.Mathlib.Numerals.{add-one}
use native.Mathlib.Omega.{arith}
use lib.ListN.{length, take, drop, get_or, set, replicate, length-append, length-take, length-drop, drop_of_length-le}
use lib.Seq.{drop-cons, get_or-drop, take-nil, take_all, take-length, take-take, append_snoc, set_at, paste, take_at, drop-drop, drop-append-add}
use Rattle.promise.specs.Slices.{over}

-- a scan's turn: what stands at i, and what is left
pub next : (s : List ℕ) (i : ℕ) → i < length s → drop i s ≡ get_or s i 0 ∷ drop (i + 1) s
next s i h = rw (add-one, drop-cons s i 0)

pub next-2 : (s : List ℕ) (i : ℕ) → i + 1 < length s → drop i s ≡ get_or s i 0 ∷ get_or s (i + 1) 0 ∷ drop (i + 2) s
next-2 s i h = let e : i + 2 ≡ i + 1 + 1 = omega arith in next s i (omega arith) ∙ rw (e, next s (i + 1) h)

pub next-3 : (s : List ℕ) (i : ℕ) → i + 2 < length s → drop i s ≡ get_or s i 0 ∷ get_or s (i + 1) 0 ∷ get_or s (i + 2) 0 ∷ drop (i + 3) s
next-3 s i h = let e : i + 3 ≡ i + 2 + 1 = omega arith in next-2 s i (omega arith) ∙ rw (e, next s (i + 2) h)

pub next-4 : (s : List ℕ) (i : ℕ) → i + 3 < length s
    → drop i s ≡ get_or s i 0 ∷ get_or s (i + 1) 0 ∷ get_or s (i + 2) 0 ∷ get_or s (i + 3) 0 ∷ drop (i + 4) s
next-4 s i h = let e : i + 4 ≡ i + 3 + 1 = omega arith in next-3 s i (omega arith) ∙ rw (e, next s (i + 3) h)

-- the first of what stands from i on
pub first_from : (s : List ℕ) (i : ℕ) → get_or (drop i s) 0 0 ≡ get_or s i 0
first_from s i = get_or-drop i s 0 0 ∙ rw add-zero

-- the part from a on of a front of u elements
pub drop-take : {A : Type 0} (a u : ℕ) (s : List A) → drop a (take u s) ≡ take (u - a) (drop a s)
drop-take zero u s = rw sub-zero
drop-take (suc a) zero s = let e : 0 - suc a ≡ 0 = omega arith in rw e
drop-take (suc a) (suc u) [] = rw take-nil
drop-take (suc a) (suc u) (x ∷ s) = let e : suc u - suc a ≡ u - a = omega arith in rw e (drop-take a u s)

-- the part from a on, as it is lent
pub tail_whole : (b : List ℕ) (a : ℕ) → take (length b - a) (drop a b) ≡ drop a b
tail_whole b a = take_all (length b - a) (drop a b) (simp length-drop (omega arith))

-- the whole, once that part has come back as y
pub tail_back : (b y : List ℕ) (a : ℕ) → take a b ++ (y ++ drop (length b - a) (drop a b)) ≡ take a b ++ y
tail_back b y a =
    let l : length (drop a b) ≤ length b - a = simp length-drop (omega arith) in
    rw (drop_of_length-le (drop a b) l, append-nil)

-- a front goes no further than the list
pub take_min : {A : Type 0} (c : ℕ) (z : List A) → take c z ≡ take (min c (length z)) z
take_min c z = elim (dec_le c (length z)) [ yes h ↦ rw (min-eq_left h) | no h ↦ (let k : length z ≤ c = omega arith in rw (min-eq_right k, take_all c z k, take-length)) ]

pub take-both : {A : Type 0} (c m : ℕ) (z : List A) → take c (take m z) ≡ take (min c m) z
take-both c m z = elim (dec_le c m) [ yes h ↦ rw (min-eq_left h) (take-take c m z h) | no h ↦ (let k : m ≤ c = omega arith in rw (min-eq_right k) (take_all c (take m z) (omega (arith, length-take m z)))) ]

-- one more at the end of what a slice holds in front
pub over-more : (x xs out : List ℕ) (k a : ℕ) → x ≡ over xs out → length xs ≡ k → k < length out → set x k a ≡ over (xs ++ (a ∷ [])) out
over-more x xs out k a q e h =
    let n : length (xs ++ (a ∷ [])) ≡ suc k = length-append xs (a ∷ []) ∙ omega arith in
    rw (q, n, e, drop-cons out k 0 h, set_at xs (get_or out k 0) (drop (suc k) out) a k e, append_snoc)

-- more, behind what was written
pub paste-behind : (p x w : List ℕ) (m k : ℕ) → length p ≡ m → length x ≡ k → paste (over p w) m x k ≡ over (p ++ x) w
paste-behind p x w m k e l =
    let lp : length (p ++ x) ≡ m + k = omega (arith, length-append p x) in
    let d : drop (m + k) (p ++ drop (length p) w) ≡ drop (m + k) w = rw (← e) (drop-append-add p (drop (length p) w) k ∙ drop-drop k (length p) w) in
    rw (take_at p (drop (length p) w) m e, take_all k x (omega arith), d, lp)

-- two pastes, one behind the other
pub paste-both : (d x y : List ℕ) (at n : ℕ) → n ≡ length x → at + (n + length y) ≤ length d
    → paste (paste d at x n) (at + n) y (length y) ≡ paste d at (x ++ y) (length (x ++ y))
paste-both d x y at n e h =
    let la : length (take at d ++ x) ≡ at + n = simp (length-append, length-take) (omega arith) in
    let ly : length (x ++ y) ≡ n + length y = simp length-append (omega arith) in
    let tx : take n x ≡ x = take_all n x (omega arith) in
    let dd : drop (at + n + length y) ((take at d ++ x) ++ drop (at + n) d) ≡ drop (at + (n + length y)) d =
    let e₁ : at + n + length y ≡ length (take at d ++ x) + length y = omega arith in
    let e₂ : at + n + length y ≡ at + (n + length y) = omega arith in
    rw (e₁, drop-append-add (take at d ++ x) (drop (at + n) d) (length y), drop-drop, e₂) in
    rw (tx, take_at (take at d ++ x) _ (at + n) la, take-length, dd, ly, ← ly, take-length, ly) (simp append_assoc)

-- a paste in the part from m on, which was lent and came back
pub part-pasted : (t ys y : List ℕ) (m : ℕ) → y ≡ over ys (take (length t - m) (drop m t))
    → take m t ++ (y ++ drop (length t - m) (drop m t)) ≡ paste t m ys (length ys)
part-pasted t ys y m e = tail_back t y m ∙ rw (e, tail_whole t m, drop-drop, take-length) (simp append_assoc)

-- ---- elements of lists, by what stands before and behind them

pub none_in : {A : Type 0} (s : List A) (x : A) (r : List A) → [] ≡ s ++ x ∷ r → ⊥
none_in s x r e = let z : zero ≡ length (s ++ x ∷ r) = ap length e in omega (arith, length-append s (x ∷ r))

-- an element of two lists is one of the first or one of the second
pub in_either : {A : Type 0} (P Q s : List A) (x : A) (r : List A) → P ++ Q ≡ s ++ x ∷ r
    → ((m : List A) × (P ≡ s ++ x ∷ m)) ⊎ ((m : List A) × (s ≡ P ++ m) × (Q ≡ m ++ x ∷ r))
in_either [] Q s x r e = inr (s, refl, e)
in_either {A} (y ∷ P) Q [] x r e = let q : y ≡ x = cc in inl (P, ap {B = List A} (λ z. z ∷ P) q)
in_either {A} (y ∷ P) Q (z ∷ s) x r e =
    let q : y ≡ z = cc in
    ⊎_elim
    (λ h. inl (h.0, ap₂ {C = List A} (λ a l. a ∷ l) q h.1))
    (λ h. inr (h.0, ap₂ {C = List A} (λ a l. a ∷ l) (sym q) h.1, h.2)) (in_either P Q s x r (cc))

-- of one element many times over there is no other
pub replicate-only : {A : Type 0} (P : A → Type 0) (n : ℕ) (a : A) → P a → (s : List A) (x : A) (r : List A) → replicate n a ≡ s ++ x ∷ r → P x
replicate-only P zero a h s x r e = absurd (none_in s x r e)
replicate-only P (suc n) a h [] x r e = let k : a ≡ x = cc in subst P k h
replicate-only P (suc n) a h (y ∷ s) x r e = replicate-only P n a h s x r (cc)

-- ---- what every element has

unfoldable pub Every : {A : Type 0} → (A → Type 0) → List A → Type 0
Every P [] = Unit {0}
Every P (x ∷ xs) = P x × Every P xs

pub every_one : {A : Type 0} (P : A → Type 0) (s : List A) (x : A) (r : List A) → Every P (s ++ x ∷ r) → P x
unfolding Every
every_one P [] x r h = h.0
every_one P (y ∷ s) x r h = every_one P s x r h.1
