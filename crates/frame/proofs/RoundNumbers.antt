-- Bytes, and the numbers of four of them.
use mathlib.Core.Path.{◌≡◌, refl, ap}
use mathlib.Core.Bool.{true}
use mathlib.Core.List.{List, [], ◌∷◌, ◌++◌}
use Prim.Native.Nat.{ℕ, zero, suc, ◌+◌, ◌*◌, ◌/◌, ◌%◌, ◌≤◌, ◌<◌}
use native.Mathlib.Nat.{div-add-mod'}
use native.Mathlib.Omega.{arith}
use borrow.Author.Tests.{leb-true, ltb-true, le-leb}
use lib.Dec.{leb}
use lib.ListN.{length, drop, get_or, length-drop}
use lib.Seq.{drop-drop}
use Rattle.promise.proofs.Bools.{both, both_true, T_true}
use Rattle.text.specs.Text.{all}
use Rattle.text.proofs.Alls.{all_append, all_drop}
use Rattle.hexline.specs.Theorems.{Bytes}
use Rattle.frame.specs.Numbers.{number, number_in}
use Rattle.frame.specs.Theorems.{word}
use Rattle.frame.proofs.Fours.{number-front}

-- ---- bytes

pub byte_at : (s : List ℕ) (i : ℕ) → Bytes s → get_or s i 0 < 256
unfolding all
byte_at [] i e = omega arith
byte_at (x ∷ s) zero e = let h : x ≤ 255 = leb-true x 255 (both (leb x 255) (all (λ b. leb b 255) s) e).0 in omega arith
byte_at (x ∷ s) (suc i) e = byte_at s i (both (leb x 255) (all (λ b. leb b 255) s) e).1

pub bytes_nil : Bytes []
unfolding all
bytes_nil = refl

pub bytes_cons : (x : ℕ) (s : List ℕ) → x < 256 → Bytes s → Bytes (x ∷ s)
unfolding all
bytes_cons x s h e = both_true (le-leb x 255 (omega arith)) e

pub bytes_append : (s t : List ℕ) → Bytes s → Bytes t → Bytes (s ++ t)
bytes_append s t e f = T_true _ (all_append (λ b. leb b 255) s t (rw e tt) (rw f tt))

pub bytes_drop : (n : ℕ) (s : List ℕ) → Bytes s → Bytes (drop n s)
bytes_drop n s e = T_true _ (all_drop (λ b. leb b 255) n s (rw e tt))

-- ---- a number from its bytes, and bytes from their number

pub number-joins : (n : ℕ) → ((n / 256 / 256 / 256 * 256 + n / 256 / 256 % 256) * 256 + n / 256 % 256) * 256 + n % 256 ≡ n
number-joins n = rw (div-add-mod' (n / 256 / 256) 256, div-add-mod' (n / 256) 256, div-add-mod' n 256)

last : (m d : ℕ) → d < 256 → ((m * 256 + d) / 256 ≡ m) × ((m * 256 + d) % 256 ≡ d)
last m d h = (omega arith, omega arith)

pub number-splits : (a b c d : ℕ) → b < 256 → c < 256 → d < 256 → number (((a * 256 + b) * 256 + c) * 256 + d) ≡ a ∷ b ∷ c ∷ d ∷ []
number-splits a b c d hb hc hd =
    let x = last ((a * 256 + b) * 256 + c) d hd in
    let y = last (a * 256 + b) c hc in
    let z = last a b hb in
    rw (x.0, x.1, y.0, y.1, z.0, z.1)

pub number-bytes : (n : ℕ) → n < 4_294_967_296 → Bytes (number n)
number-bytes n h =
    bytes_cons (n / 256 / 256 / 256) _ (omega arith) (bytes_cons (n / 256 / 256 % 256) _ (omega arith) (bytes_cons (n / 256 % 256) _ (omega arith) (bytes_cons (n % 256) _ (omega arith) bytes_nil)))

pub word_bytes : (n : ℕ) (t : List ℕ) → word n ≡ true → Bytes t → Bytes (number n ++ t)
word_bytes n t e b = bytes_append (number n) t (number-bytes n (ltb-true n 4_294_967_296 e)) b

first_number : (s : List ℕ) → Bytes s → 4 ≤ length s → number (number_in s 0) ++ drop 4 s ≡ s
unfolding number_in
first_number [] e h = absurd (omega arith)
first_number (a ∷ []) e h = absurd (omega arith)
first_number (a ∷ b ∷ []) e h = absurd (omega arith)
first_number (a ∷ b ∷ c ∷ []) e h = absurd (omega arith)
first_number (a ∷ b ∷ c ∷ d ∷ s) e h =
    let t = a ∷ b ∷ c ∷ d ∷ s in
    ap (λ (n : List ℕ). n ++ s) (number-splits a b c d (byte_at t 1 e) (byte_at t 2 e) (byte_at t 3 e))

-- the number at i, and what stands behind it
pub number_at : (b : List ℕ) (i : ℕ) → Bytes b → i + 4 ≤ length b → number (number_in b i) ++ drop (i + 4) b ≡ drop i b
number_at b i e h =
    rw (← number-front b i, ← drop-drop 4 i b) (first_number (drop i b) (bytes_drop i b e) (omega (arith, length-drop i b)))
