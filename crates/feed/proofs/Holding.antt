-- Where a line ends, and what is held of it in its slice.
use mathlib.Core.Path.{◌≡◌, refl, sym, ap, ◌∙◌}
use mathlib.Core.Bool.{Bool, true, false, not, cond}
use mathlib.Core.List.{List, [], ◌∷◌, ◌++◌}
use Prim.Native.Nat.{ℕ, ◌+◌, ◌-◌, ◌≤◌, min}
use native.Mathlib.Decide.{dec_le}
use native.Mathlib.Omega.{arith}
use lib.Dec.{ltb}
use lib.ListN.{length, take, length-append}
use lib.Seq.{paste, take_all, take-paste, take-append-add, length-take-le}
use Rattle.std.proofs.Common.{Option, None, Some}
use Rattle.std.specs.List.{position_or_len, position}
use Rattle.std.specs.Option.{unwrap_or}
use Rattle.text.specs.Rows.{row_len}
use Rattle.text.specs.Text.{is_lf}
use Rattle.text.proofs.Laws.{len_lf, len_other, len_none, len_le}
use Rattle.feed.specs.Feeds.{held, held_limit}

-- the first row ends at the first LF, or with the text
first_lf : (s : List ℕ) → row_len is_lf s 0 ≡ position_or_len is_lf s
first_lf [] = len_none is_lf 0
first_lf (x ∷ s) = go (is_lf x) refl (first_lf s)
  where
    go : (b : Bool) → is_lf x ≡ b → row_len is_lf s 0 ≡ position_or_len is_lf s → row_len is_lf (x ∷ s) 0 ≡ cond (not (is_lf x)) (1 + position_or_len is_lf s) 0
    go true e h = rw e (len_lf is_lf x s e)
    go false e h = rw e (len_other is_lf x s e ∙ omega arith)

by_place : (m k n : ℕ) → m ≤ k → n ≡ unwrap_or (cond (ltb m k) (Some m) None) k → n ≡ m
by_place m k n h e = grind arith

pub ends-at : (s : List ℕ) (r : Option ℕ) (n : ℕ) → r ≡ position is_lf s → n ≡ unwrap_or r (length s) → (n ≡ row_len is_lf s 0) × (n ≤ length s)
ends-at s r n e q =
    let h : row_len is_lf s 0 ≤ length s = len_le is_lf s 0 in
    let k : n ≡ position_or_len is_lf s = by_place (position_or_len is_lf s) (length s) n (omega (arith, first_lf s)) (rw e at q) in
    (omega (arith, first_lf s), omega (arith, first_lf s))

-- n of the bytes b behind the p that are held: all, or as many as fill it
module _ (l b : List ℕ) (p : ℕ) (hp : p ≤ held_limit) (hl : held_limit ≤ length l) where
  held_all : (n : ℕ) → n ≡ length b → p + n ≤ held_limit → take (p + n) (paste l p b n) ≡ held (take p l ++ b)
  held_all n e h =
      let k : length (take p l) ≡ p = length-take-le p l (omega arith) in
      take-paste l p b n (omega arith) (omega arith) ∙ ap (λ (z : List ℕ). take p l ++ z) (take_all n b (omega arith)) ∙ sym (take_all held_limit (take p l ++ b) (omega (arith, length-append (take p l) b)))

  held-full : (n : ℕ) → n ≡ held_limit - p → n ≤ length b → take (p + n) (paste l p b n) ≡ held (take p l ++ b)
  held-full n e h =
      let k : length (take p l) ≡ p = length-take-le p l (omega arith) in
      let i : length (take p l) + n ≡ held_limit = omega arith in
      take-paste l p b n (omega arith) h ∙ sym (take-append-add (take p l) b n) ∙ ap (λ (j : ℕ). take j (take p l ++ b)) i

  pub held-paste : (n : ℕ) → n ≡ min (length b) (held_limit - p) → take (p + n) (paste l p b n) ≡ held (take p l ++ b)
  held-paste n e = elim (dec_le (length b) (held_limit - p)) [ yes h ↦ held_all n (omega arith) (omega arith) | no h ↦ held-full n (omega arith) (omega arith) ]
