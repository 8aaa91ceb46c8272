-- The rules of the ABNF as the code tests them.
use mathlib.Core.Path.{◌≡◌}
use mathlib.Core.Bool.{cond, ◌&&◌, and_assoc, and-true}
use mathlib.Core.List.{List, ◌∷◌}
use mathlib.Core.Logic.{⊎_elim}
use Prim.Native.Nat.{ℕ, ◌<◌, ◌≤◌}
use native.Mathlib.Omega.{arith}
use borrow.Author.Tests.{le-leb, lt-leb, ne_eqb}
use lib.Dec.{eqb, leb}
use Rattle.utf8.specs.Rfc3629.{UTF8-2, UTF8-3, UTF8-4, begins, taken}
use Rattle.utf8.proofs.Numbers.{at_most}

pub two_test : (a b : ℕ) (s : List ℕ) → taken UTF8-2 (a ∷ b ∷ s) ≡ cond (leb 0xC2 a && leb a 0xDF && leb 0x80 b && leb b 0xBF) 2 0
unfolding taken begins
two_test a b s = simp (and_assoc, and-true)

module _ (a b c : ℕ) (s : List ℕ) where
  abbrev pub Three : Type 0
  Three =
      taken UTF8-3 (a ∷ b ∷ c ∷ s)
      ≡ cond (leb 0xE0 a && leb a 0xEF && leb (cond (eqb a 0xE0) 0xA0 0x80) b && leb b (cond (eqb a 0xED) 0x9F 0xBF) && leb 0x80 c && leb c 0xBF) 3 0

  three_under : a < 0xE0 → Three
  unfolding taken begins
  three_under h = rw (lt-leb 0xE0 a h, lt-leb 0xE1 a (omega arith), lt-leb 0xED a (omega arith), lt-leb 0xEE a (omega arith))

  three-E0 : a ≡ 0xE0 → Three
  unfolding taken begins
  three-E0 e = rw e (simp (and_assoc, and-true))

  three-E1 : 0xE1 ≤ a → a ≤ 0xEC → Three
  unfolding taken begins
  three-E1 l h =
      rw (le-leb 0xE0 a (omega arith), lt-leb a 0xE0 (omega arith), le-leb 0xE1 a l, le-leb a 0xEC h, lt-leb 0xED a (omega arith), lt-leb 0xEE a (omega arith), le-leb a 0xEF (omega arith), ne_eqb a 0xE0 (λ e. omega arith), ne_eqb a 0xED (λ e. omega arith))
      (simp (and_assoc, and-true))

  three-ED : a ≡ 0xED → Three
  unfolding taken begins
  three-ED e = rw e (simp (and_assoc, and-true))

  three-EE : 0xEE ≤ a → a ≤ 0xEF → Three
  unfolding taken begins
  three-EE l h =
      rw (le-leb 0xE0 a (omega arith), lt-leb a 0xE0 (omega arith), le-leb 0xE1 a (omega arith), lt-leb a 0xEC (omega arith), le-leb 0xED a (omega arith), lt-leb a 0xED (omega arith), le-leb 0xEE a l, le-leb a 0xEF h, ne_eqb a 0xE0 (λ e. omega arith), ne_eqb a 0xED (λ e. omega arith))
      (simp (and_assoc, and-true))

  three_over : 0xEF < a → Three
  unfolding taken begins
  three_over h =
      rw (le-leb 0xE0 a (omega arith), lt-leb a 0xE0 (omega arith), le-leb 0xE1 a (omega arith), lt-leb a 0xEC (omega arith), le-leb 0xED a (omega arith), lt-leb a 0xED (omega arith), le-leb 0xEE a (omega arith), lt-leb a 0xEF h)

  pub three_test : Three
  three_test =
      ⊎_elim (λ h. three_under (omega arith))
      (λ k. ⊎_elim (λ h. three-E0 (omega arith))
      (λ l. ⊎_elim (λ h. three-E1 l h)
      (λ m. ⊎_elim (λ h. three-ED (omega arith))
      (λ n. ⊎_elim (λ h. three-EE n h) three_over (at_most a 0xEF)) (at_most a 0xED)) (at_most a 0xEC)) (at_most a 0xE0)) (at_most a 0xDF)

module _ (a b c d : ℕ) (s : List ℕ) where
  abbrev pub Four : Type 0
  Four =
      taken UTF8-4 (a ∷ b ∷ c ∷ d ∷ s)
      ≡ cond
      (leb 0xF0 a && leb a 0xF4 && leb (cond (eqb a 0xF0) 0x90 0x80) b && leb b (cond (eqb a 0xF4) 0x8F 0xBF) && leb 0x80 c && leb c 0xBF && leb 0x80 d && leb d 0xBF)
      4 0

  four_under : a < 0xF0 → Four
  unfolding taken begins
  four_under h = rw (lt-leb 0xF0 a h, lt-leb 0xF1 a (omega arith), lt-leb 0xF4 a (omega arith))

  four-F0 : a ≡ 0xF0 → Four
  unfolding taken begins
  four-F0 e = rw e (simp (and_assoc, and-true))

  four-F1 : 0xF1 ≤ a → a ≤ 0xF3 → Four
  unfolding taken begins
  four-F1 l h =
      rw (le-leb 0xF0 a (omega arith), lt-leb a 0xF0 (omega arith), le-leb 0xF1 a l, le-leb a 0xF3 h, lt-leb 0xF4 a (omega arith), le-leb a 0xF4 (omega arith), ne_eqb a 0xF0 (λ e. omega arith), ne_eqb a 0xF4 (λ e. omega arith))
      (simp (and_assoc, and-true))

  four-F4 : a ≡ 0xF4 → Four
  unfolding taken begins
  four-F4 e = rw e (simp (and_assoc, and-true))

  four_over : 0xF4 < a → Four
  unfolding taken begins
  four_over h =
      rw (le-leb 0xF0 a (omega arith), lt-leb a 0xF0 (omega arith), le-leb 0xF1 a (omega arith), lt-leb a 0xF3 (omega arith), le-leb 0xF4 a (omega arith), lt-leb a 0xF4 h)

  pub four_test : Four
  four_test =
      ⊎_elim (λ h. four_under (omega arith))
      (λ k. ⊎_elim (λ h. four-F0 (omega arith))
      (λ l. ⊎_elim (λ h. four-F1 l h)
      (λ m. ⊎_elim (λ h. four-F4 (omega arith)) four_over (at_most a 0xF4)) (at_most a 0xF3)) (at_most a 0xF0)) (at_most a 0xEF)
