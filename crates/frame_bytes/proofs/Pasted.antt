-- Bytes put at a place of a slice, and lists of bytes that fill it from the front.
use mathlib.Core.Path.{◌≡◌, refl, sym, ap, ◌∙◌}
use mathlib.Core.List.{List, [], ◌∷◌, ◌++◌}
use Prim.Native.Nat.{ℕ, ◌+◌, ◌-◌, ◌/◌, ◌%◌, ◌≤◌, ◌<◌}
use native.Mathlib.Numerals.{add-one, add-two, add-three}
use native.Mathlib.Omega.{arith}
use lib.ListN.{length, take, drop, set, length-append, length-take, length-drop}
use lib.Seq.{paste, length-paste, sets, sets-eq, take-length}
use Rattle.promise.specs.Slices.{over}
use Rattle.promise.proofs.Lists.{over-more, paste-behind, paste-both, part-pasted}
use Rattle.utf8.proofs.Stores.{stored_more, stored-rest, stored-end}
use Rattle.frame.specs.Numbers.{number}

-- ---- at a place

byte_put : (b : List ℕ) (i a : ℕ) → i < length b → set b i a ≡ paste b i (a ∷ []) 1
byte_put b i a h = sets-eq (a ∷ []) b i (omega arith)

pub number_put : (b : List ℕ) (i n x y z : ℕ) → i + 4 ≤ length b → x ≡ n / 256 / 256 % 256 → y ≡ n / 256 % 256 → z ≡ n % 256
    → set (set (set (set b i (n / 256 / 256 / 256)) (i + 1) x) (i + 2) y) (i + 3) z ≡ paste b i (number n) 4
number_put b i n x y z h e f g = rw (e, f, g, add-one, add-two, add-three) (sets-eq (number n) b i h)

-- x, and then y behind it
pub both-put : (b t u x y : List ℕ) (i m k : ℕ) → length x ≡ m → length y ≡ k → i + (m + k) ≤ length b → t ≡ paste b i x m → u ≡ paste t (i + m) y k
    → u ≡ paste b i (x ++ y) (m + k)
both-put b t u x y i m k e f h p q =
    let l : m + k ≡ length (x ++ y) = omega (arith, length-append x y) in
    rw (q, p, l, ← f) (paste-both b x y i m (sym e) (omega arith))

pub column_put : (b t : List ℕ) (i c f : ℕ) → i + 5 ≤ length b → t ≡ paste b i (number c) 4 → set t (i + 4) f ≡ paste b i (number c ++ (f ∷ [])) 5
column_put b t i c f h p =
    let l : length t ≡ length b = ap length p ∙ length-paste b i (number c) 4 (omega arith) (omega arith) in
    both-put b t (set t (i + 4) f) (number c) (f ∷ []) i 4 1 refl refl h p (byte_put t (i + 4) f (omega arith))

pub chunk_put : (b t y os : List ℕ) (i n : ℕ) → n ≡ length os → i + (4 + length os) ≤ length b → t ≡ paste b i (number n) 4
    → y ≡ over os (take (length t - (i + 4)) (drop (i + 4) t))
    → take (i + 4) t ++ (y ++ drop (length t - (i + 4)) (drop (i + 4) t)) ≡ paste b i (number (length os) ++ os) (4 + length os)
chunk_put b t y os i n e h p q =
    both-put b t (take (i + 4) t ++ (y ++ drop (length t - (i + 4)) (drop (i + 4) t))) (number (length os)) os i 4 (length os) refl refl h (rw e at p) (part-pasted t os y (i + 4) q)

-- ---- from the front

pub first_put : (b : List ℕ) (a : ℕ) → 0 < length b → set b 0 a ≡ over (a ∷ []) b
first_put b a h = over-more b [] b 0 a refl refl h

pub behind : (p x b t u : List ℕ) (m k : ℕ) → length p ≡ m → length x ≡ k → t ≡ over p b → u ≡ paste t m x k → u ≡ over (p ++ x) b
behind p x b t u m k e f q r = rw (r, q) (paste-behind p x b m k e f)

-- The first k of w stand at the front of what was b, and the rest is still to come.
abbrev pub Filled : List ℕ → List ℕ → List ℕ → ℕ → List ℕ → Type 0
Filled w b t k rest = (k ≤ length w) × (drop k w ≡ rest) × (t ≡ take k w ++ drop k b)

pub fill_none : (w b : List ℕ) → Filled w b b 0 w
fill_none w b = (omega arith, refl, refl)

module _ (w b t os rest r : List ℕ) (k n : ℕ) (l : length os ≡ n) (e : r ≡ os ++ rest) (f : Filled w b t k r) where
  pub fill_room : k + n ≤ length w
  fill_room = omega (arith, simp (length-drop, length-append) at (ap length (f.1 ∙ e)))

  pub fill_more : (u : List ℕ) → length w ≤ length b → u ≡ paste t k os n → Filled w b u (k + n) rest
  fill_more u h p =
      let m : k + n ≤ length w = fill_room in
      let lt : length t ≡ length b = ap length f.2 ∙ simp (length-append, length-take, length-drop) (omega arith) in
      let q : u ≡ paste t k os (length os) = rw (← l) at p in
      let s : paste t k os (length os) ≡ sets t k os = rw (take-length os) (sym (sets-eq os t k (omega arith))) in
      (m, rw (← l) (stored-rest w b t os rest k f.2 (f.1 ∙ e) (omega arith) f.0), rw (← l) (q ∙ s ∙ stored_more w b t os rest k f.2 (f.1 ∙ e) (omega arith) f.0))

pub fill_end : (w b t r : List ℕ) (k : ℕ) → r ≡ [] → Filled w b t k r → t ≡ over w b
fill_end w b t r k e f = stored-end w b t k f.2 (f.1 ∙ e) f.0
