-- Selections that are equal but for the order of neighbours that start at one place: what the order of the input leaves open.
use mathlib.Core.Bool.{Bool, true, false, ◌&&◌}
use mathlib.Core.List.{List, [], ◌∷◌}
use mathlib.Core.Logic.{⊎_elim}
use mathlib.Core.Path.{◌≡◌, refl, sym, ap, ap₂, ◌∙◌}
use Rattle.promise.proofs.Bools.{both_true, known, clash, unless}
use Rattle.text.specs.declared.Position.{Position}
use Rattle.text.specs.Rows.{upto, later}
use Rattle.text.proofs.Order.{upto-trans, upto-total, upto-both, later-left}
use Rattle.select.specs.declared.Sel.{Sel}
use Rattle.select.specs.Sels.{start, end, overlaps}
use Rattle.select.proofs.Overlaps.{start-end, overlaps-after}
use Rattle.sorting.specs.Sorting.{insert, sorted, by_start}
use Rattle.sorting.specs.Theorems.{starts_from, ascending, Reordered}
use Rattle.sorting.specs.Theorems as order
use Rattle.sorting.proofs.Sorted.{insert-none, insert-first, insert-next, reordered_from, ascending-sorted}
use Rattle.merge.specs.Merging.{merge_two, collapsed, collapse, merged}
use Rattle.merge.proofs.Pairs.{start-after, end-two, two_swap, two_past}
use Rattle.merge.proofs.Collapsed.{collapsed-over, collapsed-past, ascending-next, ascending-tail, ascending-two}

data Tied : List Sel → List Sel → Type 0 where
  none : Tied [] []
  keep : (s : Sel) {l m : List Sel} → Tied l m → Tied (s ∷ l) (s ∷ m)
  swap : (s t : Sel) (l : List Sel) → start s ≡ start t → Tied (s ∷ t ∷ l) (t ∷ s ∷ l)
  twice : {l m n : List Sel} → Tied l m → Tied m n → Tied l n

tied_same : (l : List Sel) → Tied l l
tied_same [] = none
tied_same (s ∷ l) = keep s (tied_same l)

-- ---- sorting

-- two that both go before all that follows
tied_two : (x y : Sel) (l : List Sel) → insert by_start x l ≡ x ∷ l → insert by_start y l ≡ y ∷ l → Tied (insert by_start x (y ∷ l)) (insert by_start y (x ∷ l))
tied_two x y l e f = go (by_start x y) (by_start y x) refl refl
  where
    go : (a b : Bool) → by_start x y ≡ a → by_start y x ≡ b → Tied (insert by_start x (y ∷ l)) (insert by_start y (x ∷ l))
    go true true a b = rw (insert-first x y l a, insert-first y x l b) (swap x y l (upto-both (start x) (start y) a b))
    go true false a b = rw (insert-first x y l a, insert-next y x l b, f) (tied_same (x ∷ y ∷ l))
    go false b a _ = rw (insert-next x y l a, insert-first y x l (upto-total (start x) (start y) a), e) (tied_same (y ∷ x ∷ l))

-- one that goes before what the other goes behind
one-first : (x y z : Sel) (l : List Sel) → by_start x z ≡ true → by_start y z ≡ false → insert by_start x (insert by_start y (z ∷ l)) ≡ insert by_start y (insert by_start x (z ∷ l))
one-first x y z l e f =
    let g : by_start y x ≡ false = unless (by_start y x) (λ h. clash (upto-trans (start y) (start x) (start z) h e) f) in
    rw (insert-next y z l f, insert-first x z (insert by_start y l) e, insert-first x z l e, insert-next y x (z ∷ l) g, insert-next y z l f)

insert-twice : (x y : Sel) (l : List Sel) → Tied (insert by_start x (insert by_start y l)) (insert by_start y (insert by_start x l))
insert-twice x y [] = rw (insert-none x, insert-none y) (tied_two x y [] (insert-none x) (insert-none y))
insert-twice x y (z ∷ l) = go (by_start x z) (by_start y z) refl refl (insert-twice x y l)
  where
    go : (a b : Bool) → by_start x z ≡ a → by_start y z ≡ b → Tied (insert by_start x (insert by_start y l)) (insert by_start y (insert by_start x l))
        → Tied (insert by_start x (insert by_start y (z ∷ l))) (insert by_start y (insert by_start x (z ∷ l)))
    go true true a b i = rw (insert-first x z l a, insert-first y z l b) (tied_two x y (z ∷ l) (insert-first x z l a) (insert-first y z l b))
    go true false a b i = rw (one-first x y z l a b) (tied_same (insert by_start y (insert by_start x (z ∷ l))))
    go false true a b i = rw (one-first y x z l b a) (tied_same (insert by_start x (insert by_start y (z ∷ l))))
    go false false a b i = rw (insert-next x z l a, insert-next y z l b, insert-next x z (insert by_start y l) a, insert-next y z (insert by_start x l) b) (keep z i)

insert-tied : (x : Sel) {l m : List Sel} → Tied l m → Tied (insert by_start x l) (insert by_start x m)
insert-tied x none = tied_same (insert by_start x [])
insert-tied x (keep s {l} {m} r) = go (insert-tied x r)
  where
    go : Tied (insert by_start x l) (insert by_start x m) → Tied (insert by_start x (s ∷ l)) (insert by_start x (s ∷ m))
    go i =
        ⊎_elim
        (λ a. rw (insert-first x s l a, insert-first x s m a) (keep x (keep s r)))
        (λ a. rw (insert-next x s l a, insert-next x s m a) (keep s i))
        (known (by_start x s))
insert-tied x (swap s t l e) =
    let f : by_start x s ≡ by_start x t = ap (upto (start x)) e in
    ⊎_elim
    (λ a. rw (insert-first x s (t ∷ l) a, insert-first x t (s ∷ l) (sym f ∙ a)) (keep x (swap s t l e)))
    (λ a. rw (insert-next x s (t ∷ l) a, insert-next x t l (sym f ∙ a), insert-next x t (s ∷ l) (sym f ∙ a), insert-next x s l a) (swap s t (insert by_start x l) e))
    (known (by_start x s))
insert-tied x (twice r q) = twice (insert-tied x r) (insert-tied x q)

sorted-tied : {l m : List Sel} → Reordered l m → Tied (sorted by_start l) (sorted by_start m)
unfolding sorted
sorted-tied order.none = none
sorted-tied (order.keep s r) = insert-tied s (sorted-tied r)
sorted-tied (order.swap s t l) = insert-twice s t (sorted by_start l)
sorted-tied (order.twice r q) = twice (sorted-tied r) (sorted-tied q)

-- ---- collapsing

tied_reordered : {l m : List Sel} → Tied l m → Reordered l m
tied_reordered none = order.none
tied_reordered (keep s r) = order.keep s (tied_reordered r)
tied_reordered (swap s t l e) = order.swap s t l
tied_reordered (twice r q) = order.twice (tied_reordered r) (tied_reordered q)

tied_ascending : {l m : List Sel} → Tied l m → ascending l ≡ ascending m
unfolding starts_from ascending
tied_ascending none = refl
tied_ascending (keep s r) = ap₂ ◌&&◌ (reordered_from (start s) (tied_reordered r)) (tied_ascending r)
tied_ascending (swap s t l e) = go (start s) (start t) e
  where
    go : (p q : Position) → p ≡ q → ((upto p q && starts_from p l) && (starts_from q l && ascending l)) ≡ ((upto q p && starts_from q l) && (starts_from p l && ascending l))
    go p q e = rw e
tied_ascending (twice r q) = tied_ascending r ∙ tied_ascending q

-- two that start at one place overlap
overlaps-tied : (s t : Sel) → start s ≡ start t → overlaps s t ≡ true
overlaps-tied s t e =
    both_true (ap (λ (p : Position). upto p (end t)) e ∙ start-end t) (ap (λ (p : Position). upto p (end s)) (sym e) ∙ start-end s)

tied_first : (s t : Sel) (l : List Sel) → start s ≡ start t → collapsed s (t ∷ l) ≡ collapsed t (s ∷ l)
tied_first s t l e =
    collapsed-over s t l (overlaps-tied s t e) ∙ ap (λ (x : Sel). collapsed x l) (two_swap s t) ∙ sym (collapsed-over t s l (overlaps-tied t s (sym e)))

-- one that overlaps the first of two that start at one place behind it overlaps the other too, also when merged with the first
overlaps-second : (r s t : Sel) → upto (start r) (start s) ≡ true → start s ≡ start t → overlaps r s ≡ true → overlaps (merge_two r s) t ≡ true
overlaps-second r s t a e o =
    let m : upto (start (merge_two r s)) (start t) ≡ true = ap (λ (p : Position). upto p (start t)) (start-after r s a) ∙ ap (upto (start r)) (sym e) ∙ a in
    let f : upto (start t) (end r) ≡ true = ap (λ (p : Position). upto p (end r)) (sym e) ∙ sym (overlaps-after r s a) ∙ o in
    overlaps-after (merge_two r s) t m ∙ ap (upto (start t)) (end-two r s) ∙ upto-trans (start t) (end r) (later (end r) (end s)) f (later-left (end r) (end s))

tied_collapsed : (last : Sel) {l m : List Sel} → Tied l m → ascending (last ∷ l) ≡ true → collapsed last l ≡ collapsed last m
tied_collapsed last none h = refl
tied_collapsed last (keep s {l} {m} r) h =
    ⊎_elim
    (λ o. rw (collapsed-over last s l o, collapsed-over last s m o) (tied_collapsed (merge_two last s) r (ascending-two last s l h)))
    (λ o. rw (collapsed-past last s l o, collapsed-past last s m o) (ap (λ (x : List Sel). last ∷ x) (tied_collapsed s r (ascending-tail last s l h))))
    (known (overlaps last s))
tied_collapsed last (swap s t l e) h =
    let a : upto (start last) (start s) ≡ true = ascending-next last s (t ∷ l) h in
    let b : upto (start last) (start t) ≡ true = ap (upto (start last)) (sym e) ∙ a in
    let f : overlaps last t ≡ overlaps last s = overlaps-after last t b ∙ ap (λ (p : Position). upto p (end last)) (sym e) ∙ sym (overlaps-after last s a) in
    ⊎_elim
    (λ o. collapsed-over last s (t ∷ l) o ∙ collapsed-over (merge_two last s) t l (overlaps-second last s t a e o)
    ∙ ap (λ (x : Sel). collapsed x l) (two_past last s t a b)
    ∙ sym (collapsed-over last t (s ∷ l) (f ∙ o) ∙ collapsed-over (merge_two last t) s l (overlaps-second last t s b (sym e) (f ∙ o))))
    (λ o. collapsed-past last s (t ∷ l) o ∙ ap (λ (x : List Sel). last ∷ x) (tied_first s t l e) ∙ sym (collapsed-past last t (s ∷ l) (f ∙ o)))
    (known (overlaps last s))
tied_collapsed last (twice r q) h =
    tied_collapsed last r h ∙ tied_collapsed last q (sym (tied_ascending (keep last r)) ∙ h)

tied_collapse : {l m : List Sel} → Tied l m → ascending l ≡ true → collapse l ≡ collapse m
unfolding collapse
tied_collapse none h = refl
tied_collapse (keep s r) h = tied_collapsed s r h
tied_collapse (swap s t l e) h = tied_first s t l e
tied_collapse (twice r q) h = tied_collapse r h ∙ tied_collapse q (sym (tied_ascending r) ∙ h)

pub merged-reordered : (l m : List Sel) → Reordered l m → merged l ≡ merged m
merged-reordered l m r = tied_collapse (sorted-tied r) (ascending-sorted l)
