-- A splice of a text in its buffer, of at most one character for at most one.
use mathlib.Core.Path.{◌≡◌, refl, sym, ap, ◌∙◌}
use mathlib.Core.List.{List, [], ◌∷◌, ◌++◌, append_assoc}
use Prim.Native.Nat.{ℕ, ◌+◌, ◌-◌, ◌≤◌, max}
use native.Mathlib.Omega.{arith}
use lib.ListN.{length, take, drop, length-append, length-take, length-drop, take-append-drop}
use lib.Seq.{paste, take-take, take-length, drop-drop}
use Rattle.promise.proofs.Lists.{drop-take}
use Rattle.text.specs.Rows.{spliced}
use Rattle.text.specs.Text.{renewed}
use Rattle.text.proofs.Renewed.{renewed-text, renewed-twice}
use Rattle.splice.specs.Splice.{gap_opened, gap_removed}

-- what `replace` promises
abbrev pub replaced_in : List ℕ → ℕ → ℕ → ℕ → List ℕ → List ℕ
replaced_in b used a e p = renewed b used (spliced (take used b) a e p)

module _ (b t : List ℕ) (used a e : ℕ) (p : List ℕ) where
  pub replaced-open : a ≡ e → t ≡ gap_opened b used a p → t ≡ replaced_in b used a e p
  replaced-open q h = rw (← q) h

  pub replaced-out : length p ≡ 0 → t ≡ gap_removed b used a e → t ≡ replaced_in b used a e p
  replaced-out q h = let z : p ≡ [] = empty p q in rw z h
    where
      empty : (l : List ℕ) → length l ≡ 0 → l ≡ []
      empty [] q = refl
      empty (x ∷ l) q = absurd (omega arith)

  -- as many come as go
  module _ (q : a + length p ≡ e) (h : e ≤ used) (k : used ≤ length b) where
    rest : drop e b ≡ take (used - e) (drop e b) ++ drop used b
    rest = let m : e + (used - e) ≡ used = omega arith in sym (take-append-drop (used - e) (drop e b)) ∙ rw (drop-drop, m)

    over-renewed : replaced_in b used a e p ≡ take a b ++ (p ++ (take (used - e) (drop e b) ++ drop used b))
    unfolding renewed
    over-renewed =
        let l : length (take a b ++ (p ++ take (used - e) (drop e b))) ≡ used = simp (length-append, length-take, length-drop) (omega arith) in
        let z : used - used ≡ 0 = omega arith in
        let m : max used used ≡ used = omega arith in
        rw (drop-take e used b, take-take a used b (omega arith), l, z, m) (simp append_assoc)

    pub replaced-over : t ≡ paste b a p (length p) → t ≡ replaced_in b used a e p
    replaced-over r = r ∙ rw (take-length, q) (append_assoc (take a b) p (drop e b) ∙ ap (λ (l : List ℕ). take a b ++ (p ++ l)) rest) ∙ sym over-renewed

-- a turn on a buffer whose text is u: its text is w then
pub turned : (b t t' : List ℕ) (used n a e : ℕ) (p u w : List ℕ) → t ≡ renewed b used u → n ≡ length u → w ≡ spliced u a e p → t' ≡ replaced_in t n a e p
    → length u ≤ max used (length w) → used ≤ length b → length w ≤ length b → t' ≡ renewed b used w
turned b t t' used n a e p u w ht hn hw h l k j =
    let s : take n t ≡ u = rw (ht, hn) (renewed-text b used u) in
    h ∙ rw (s, ← hw, ht, hn) (renewed-twice b used u w l k j)
