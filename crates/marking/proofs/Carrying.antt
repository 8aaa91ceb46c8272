-- Marks carried one after the other in a slice.
use mathlib.Core.Path.{◌≡◌, sym, ap, ◌∙◌}
use mathlib.Core.List.{List, ◌∷◌, ◌++◌, map, map-append}
use Prim.Native.Nat.{ℕ, suc, ◌+◌, ◌-◌, ◌≤◌, ◌<◌}
use native.Mathlib.Omega.{arith}
use native.Mathlib.Numerals.{add-one}
use native.Mathlib.Nat.{sub-zero}
use lib.ListN.{length, take, drop, get_or, set, length-map}
use lib.Seq.{take-suc, drop-cons}
use Rattle.std.proofs.lemmas.List.{take_more_set, drop-set-lt}
use Rattle.std.specs.Prelude.{Option}
use Rattle.select.specs.declared.Sel.{Sel}
use Rattle.shift.specs.Answers.{Followed, followed}
use Rattle.marking.specs.Slots.{marks_in, marks_over}
use Rattle.marking.proofs.Slots.{slots-followed, count_marks}

-- the first i marks of o have been put through h
module _ (h : Followed Sel → Followed Sel) (o : List (Option Sel)) where
  abbrev pub Through : ℕ → List (Option Sel) → Type 0
  Through i l = (map followed (take i l) ≡ map h (map followed (take i o))) × (drop i l ≡ drop i o)

  pub one_through : (i : ℕ) (l : List (Option Sel)) (d v : Option Sel) → Through i l → i < length l → i < length o → followed v ≡ h (followed (get_or l i d)) → Through (i + 1) (set l i v)
  one_through i l d v t k j e =
      let q : get_or l i d ∷ drop (suc i) l ≡ get_or o i d ∷ drop (suc i) o = sym (drop-cons l i d k) ∙ t.1 ∙ drop-cons o i d j in
      let f : get_or l i d ≡ get_or o i d = ap (λ (r : List (Option Sel)). get_or r 0 d) q in
      (rw (take_more_set l i v k, map-append, t.0, e, f, add-one, take-suc o i d j, map-append, map-append), rw (add-one, drop-set-lt (suc i) l i v (omega arith)) (ap (drop 1) q))

  -- those of a copy, and back in it
  pub copy_carried : (n : ℕ) (t u : List (Option Sel)) → n ≤ length o → t ≡ o → map followed u ≡ map h (map followed (take (n - 0) (drop 0 t))) → u ++ drop (n - 0) t ≡ marks_over (map h (marks_in n o)) o
  copy_carried n t u k q e =
      let c : length (map h (marks_in n o)) ≡ n = length-map (marks_in n o) h ∙ count_marks n o k in
      let f : map followed u ≡ map h (marks_in n o) = rw (sub-zero, q) at e in
      rw (sub-zero, q, c, ← f, slots-followed u)
