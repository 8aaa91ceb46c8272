-- What collapsing leaves of ascending selections.
use mathlib.Core.Bool.{Bool, true, false, not, ◌||◌, and-false, or_assoc}
use mathlib.Core.List.{List, [], ◌∷◌}
use mathlib.Core.Logic.{⊎_elim}
use mathlib.Core.Path.{◌≡◌, refl, sym, ap, ◌∙◌}
use borrow.Author.Tests.{not-true}
use Rattle.promise.proofs.Bools.{both, both_true, known}
use Rattle.text.specs.declared.Position.{Position}
use Rattle.text.specs.Rows.{upto}
use Rattle.text.proofs.Order.{past-beyond}
use Rattle.select.specs.declared.Sel.{Sel}
use Rattle.select.specs.Sels.{start, end, covers, overlaps}
use Rattle.select.proofs.Overlaps.{overlaps-after}
use Rattle.sorting.specs.Theorems.{starts_from, ascending}
use Rattle.merge.specs.Merging.{merge_two, collapsed, collapse}
use Rattle.merge.specs.Theorems.{starts_past, separated, covered}
use Rattle.merge.proofs.Pairs.{start-after, covers-two}

from_past : (p q : Position) (l : List Sel) → upto q p ≡ false → starts_from q l ≡ true → starts_past p l ≡ true
unfolding starts_from starts_past
from_past p q [] e h = refl
from_past p q (s ∷ l) e h = let k = both (upto q (start s)) (starts_from q l) h in rw (past-beyond q (start s) p e k.0) (from_past p q l e k.1)

module _ (last s : Sel) (ss : List Sel) where
  pub collapsed-over : overlaps last s ≡ true → collapsed last (s ∷ ss) ≡ collapsed (merge_two last s) ss
  unfolding collapsed
  collapsed-over e = rw e

  pub collapsed-past : overlaps last s ≡ false → collapsed last (s ∷ ss) ≡ last ∷ collapsed s ss
  unfolding collapsed
  collapsed-past e = rw e

  -- ---- ascending from the last one so far on

  pub ascending-next : ascending (last ∷ s ∷ ss) ≡ true → upto (start last) (start s) ≡ true
  unfolding starts_from ascending
  ascending-next h =
      (both (upto (start last) (start s)) (starts_from (start last) ss) (both (starts_from (start last) (s ∷ ss)) (ascending (s ∷ ss)) h).0).0

  pub ascending-tail : ascending (last ∷ s ∷ ss) ≡ true → ascending (s ∷ ss) ≡ true
  unfolding ascending
  ascending-tail h = (both (starts_from (start last) (s ∷ ss)) (ascending (s ∷ ss)) h).1

  pub ascending-two : ascending (last ∷ s ∷ ss) ≡ true → ascending (merge_two last s ∷ ss) ≡ true
  unfolding starts_from ascending
  ascending-two h =
      let k = both (starts_from (start last) (s ∷ ss)) (ascending (s ∷ ss)) h in
      let f = both (upto (start last) (start s)) (starts_from (start last) ss) k.0 in
      both_true (ap (λ (p : Position). starts_from p ss) (start-after last s f.0) ∙ f.1) (both (starts_from (start s) ss) (ascending ss) k.1).1

  -- where the two do not overlap, the second starts past the end of the first
  starts-past : ascending (last ∷ s ∷ ss) ≡ true → overlaps last s ≡ false → upto (start s) (end last) ≡ false
  starts-past h e = sym (overlaps-after last s (ascending-next h)) ∙ e

  pub all_past : ascending (last ∷ s ∷ ss) ≡ true → overlaps last s ≡ false → starts_past (end last) (s ∷ ss) ≡ true
  unfolding ascending starts_past
  all_past h o =
      let e = starts-past h o in
      rw e (from_past (end last) (start s) ss e (both (starts_from (start s) ss) (ascending ss) (ascending-tail h)).0)

past-collapsed : (p : Position) (last : Sel) (ss : List Sel) → upto (start last) p ≡ false → ascending (last ∷ ss) ≡ true → starts_past p (collapsed last ss) ≡ true
unfolding collapsed starts_past
past-collapsed p last [] e h = rw e
past-collapsed p last (s ∷ ss) e h =
    let a = ascending-next last s ss h in
    let f : upto (start (merge_two last s)) p ≡ false = ap (λ (q : Position). upto q p) (start-after last s a) ∙ e in
    ⊎_elim
    (λ o. rw (collapsed-over last s ss o) (past-collapsed p (merge_two last s) ss f (ascending-two last s ss h)))
    (λ o. rw (collapsed-past last s ss o, e) (past-collapsed p s ss (past-beyond (start last) (start s) p e a) (ascending-tail last s ss h)))
    (known (overlaps last s))

separated-collapsed : (last : Sel) (ss : List Sel) → ascending (last ∷ ss) ≡ true → separated (collapsed last ss) ≡ true
unfolding collapsed starts_past separated
separated-collapsed last [] h = refl
separated-collapsed last (s ∷ ss) h =
    ⊎_elim
    (λ o. rw (collapsed-over last s ss o) (separated-collapsed (merge_two last s) ss (ascending-two last s ss h)))
    (λ o. let t = ascending-tail last s ss h in
    rw (collapsed-past last s ss o) (both_true (past-collapsed (end last) s ss (starts-past last s ss h o) t) (separated-collapsed s ss t)))
    (known (overlaps last s))

pub separated-collapse : (l : List Sel) → ascending l ≡ true → separated (collapse l) ≡ true
unfolding collapse separated
separated-collapse [] h = refl
separated-collapse (s ∷ ss) h = separated-collapsed s ss h

covered-collapsed : (p : Position) (last : Sel) (ss : List Sel) → covered p (collapsed last ss) ≡ covered p (last ∷ ss)
unfolding collapsed covered
covered-collapsed p last [] = refl
covered-collapsed p last (s ∷ ss) =
    ⊎_elim
    (λ o. rw (collapsed-over last s ss o) (covered-collapsed p (merge_two last s) ss
    ∙ ap (λ (b : Bool). b || covered p ss) (covers-two last s p o) ∙ or_assoc (covers last p) (covers s p) (covered p ss)))
    (λ o. rw (collapsed-past last s ss o) (ap (λ (b : Bool). covers last p || b) (covered-collapsed p s ss)))
    (known (overlaps last s))

pub covered-collapse : (p : Position) (l : List Sel) → covered p (collapse l) ≡ covered p l
unfolding collapse
covered-collapse p [] = refl
covered-collapse p (s ∷ ss) = covered-collapsed p s ss

collapsed-separated : (last : Sel) (ss : List Sel) → separated (last ∷ ss) ≡ true → collapsed last ss ≡ last ∷ ss
unfolding collapsed starts_past separated
collapsed-separated last [] h = refl
collapsed-separated last (s ∷ ss) h =
    let k = both (starts_past (end last) (s ∷ ss)) (separated (s ∷ ss)) h in
    let f = both (not (upto (start s) (end last))) (starts_past (end last) ss) k.0 in
    let e : upto (start s) (end last) ≡ false = not-true (upto (start s) (end last)) f.0 in
    rw (e, and-false) (ap (λ (l : List Sel). last ∷ l) (collapsed-separated s ss k.1))

pub collapse-separated : (l : List Sel) → separated l ≡ true → collapse l ≡ l
unfolding collapse
collapse-separated [] h = refl
collapse-separated (s ∷ ss) h = collapsed-separated s ss h
