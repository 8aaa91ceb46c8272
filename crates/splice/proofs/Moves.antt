-- The turn of a loop that copies: the law speaks of the present list t by the invariant's equation.
use mathlib.Core.Path.{◌≡◌}
use mathlib.Core.List.{List, [], ◌∷◌, ◌++◌}
use Prim.Native.Nat.{ℕ, suc, ◌+◌, ◌<◌}
use native.Mathlib.Numerals.{add-one}
use lib.ListN.{length, drop, get_or, set}
use lib.Seq.{paste, paste-suc, drop-cons, append_snoc, set_at}

-- a store at the seam of what is written, p, and what is left of b
seam : (p b : List ℕ) (n a : ℕ) → length p ≡ n → n < length b → set (p ++ drop n b) n a ≡ (p ++ (a ∷ [])) ++ drop (suc n) b
seam p b n a e h = rw (drop-cons b n 0, set_at _ _ _ _ _ e, append_snoc)

-- a copy of s to index at
pub paste-step : (d : List ℕ) (at : ℕ) (s : List ℕ) (j : ℕ) (t : List ℕ) → t ≡ paste d at s j → at + j < length d → j < length s
    → set t (at + j) (get_or s j 0) ≡ paste d at s (j + 1)
paste-step d at s j t e hd hs = rw (e, add-one) (paste-suc d at s j 0 hd hs)
