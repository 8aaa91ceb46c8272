-- Laws of numbers of four bytes.
use mathlib.Core.Path.{◌≡◌, ◌∙◌}
use mathlib.Core.List.{List}
use Prim.Native.Nat.{ℕ, ◌+◌}
use native.Mathlib.Nat.{add_assoc, add-zero}
use lib.ListN.{drop}
use lib.Seq.{get_or-drop}
use Rattle.frame.specs.Numbers.{number_in}

pub number-drop : (b : List ℕ) (a i : ℕ) → number_in (drop a b) i ≡ number_in b (a + i)
unfolding number_in
number-drop b a i = simp (get_or-drop, add_assoc)

pub number-front : (b : List ℕ) (a : ℕ) → number_in (drop a b) 0 ≡ number_in b a
number-front b a = number-drop b a 0 ∙ rw add-zero
