-- A selection that stands among others and shares no position with them.
use mathlib.Core.Bool.{Bool, true, false, not, ◌&&◌, and-false}
use mathlib.Core.List.{List, [], ◌∷◌, ◌++◌}
use mathlib.Core.Logic.{◌⊎◌, inl, inr, ⊎_elim}
use mathlib.Core.Path.{◌≡◌, refl, sym, ap, ◌∙◌, subst}
use borrow.Author.Tests.{not-true}
use Rattle.promise.proofs.Bools.{both, neither, known}
use Rattle.text.specs.declared.Position.{Position}
use Rattle.text.specs.Rows.{upto}
use Rattle.text.proofs.Order.{upto-total, past-later}
use Rattle.select.specs.declared.Sel.{Sel}
use Rattle.select.specs.Sels.{start, end, overlaps}
use Rattle.select.proofs.Overlaps.{overlaps-swap, overlaps-after}
use Rattle.sorting.specs.Sorting.{insert, sorted, by_start}
use Rattle.sorting.specs.Theorems.{ascending, Reordered, none, keep, swap, twice}
use Rattle.sorting.proofs.Sorted.{insert-none, insert-first, insert-next, reordered_same, sorted-reordered, ascending-sorted}
use Rattle.merge.specs.Merging.{merge_two, collapsed, collapse, merged}
use Rattle.merge.specs.Theorems.{starts_past, shares, Among, Lone}
use Rattle.merge.proofs.Pairs.{two_forward, end-two, apart_two}
use Rattle.merge.proofs.Reorders.{reordered_shares}
use Rattle.merge.proofs.Collapsed.{collapsed-over, collapsed-past, ascending-tail, ascending-two, all_past}
use Rattle.merge.proofs.Ties.{merged-reordered}

among_more : {s : Sel} {l : List Sel} (t : Sel) → Among s l → Among s (t ∷ l)
among_more t a = record { ahead = t ∷ a.ahead; behind = a.behind; stands = ap (λ (m : List Sel). t ∷ m) a.stands }

-- ---- a lone one is kept

-- one that neither overlaps another nor goes before it starts past its end
starts-behind : (s t : Sel) → by_start s t ≡ false → overlaps s t ≡ false → upto (start s) (end t) ≡ false
starts-behind s t e f = sym (overlaps-after t s (upto-total (start s) (start t) e)) ∙ overlaps-swap t s ∙ f

kept-first : (s : Sel) (l : List Sel) → shares s l ≡ false → Among s (collapsed s l)
unfolding collapsed shares
kept-first s [] h = record { ahead = []; behind = []; stands = refl }
kept-first s (t ∷ l) h = let k = neither (overlaps s t) (shares s l) h in record { ahead = []; behind = collapsed t l; stands = collapsed-past s t l k.0 }

kept_next : (s last : Sel) (l : List Sel) → upto (start s) (end last) ≡ false → shares s l ≡ false → Among s (collapsed last (s ∷ l))
kept_next s last l e h =
    let o : overlaps last s ≡ false = ap (λ (b : Bool). upto (start last) (end s) && b) e ∙ and-false (upto (start last) (end s)) in
    rw (collapsed-past last s l o) (among_more last (kept-first s l h))

kept_step : (s last t : Sel) (l : List Sel) → Among s (collapsed (merge_two last t) l) → Among s (collapsed t l) → Among s (collapsed last (t ∷ l))
kept_step s last t l a b = ⊎_elim (λ o. rw (collapsed-over last t l o) a) (λ o. rw (collapsed-past last t l o) (among_more last b)) (known (overlaps last t))

kept-past : (s last : Sel) (l : List Sel) → upto (start s) (end last) ≡ false → shares s l ≡ false → Among s (collapsed last (insert by_start s l))
unfolding shares
kept-past s last [] e h = rw (insert-none s) (kept_next s last [] e h)
kept-past s last (t ∷ l) e h =
    let k = neither (overlaps s t) (shares s l) h in
    let past : by_start s t ≡ false → upto (start s) (end t) ≡ false = λ a. starts-behind s t a k.0 in
    let past_two : by_start s t ≡ false → upto (start s) (end (merge_two last t)) ≡ false =
    λ a. ap (upto (start s)) (end-two last t) ∙ past-later (start s) (end last) (end t) e (past a) in
    ⊎_elim
    (λ a. rw (insert-first s t l a) (kept_next s last (t ∷ l) e h))
    (λ a. rw (insert-next s t l a) (kept_step s last t (insert by_start s l) (kept-past s (merge_two last t) l (past_two a) k.1) (kept-past s t l (past a) k.1)))
    (known (by_start s t))

kept : (s : Sel) (l : List Sel) → shares s l ≡ false → Among s (collapse (insert by_start s l))
unfolding collapse shares
kept s [] h = rw (insert-none s) (kept-first s [] h)
kept s (t ∷ l) h =
    let k = neither (overlaps s t) (shares s l) h in
    ⊎_elim
    (λ a. rw (insert-first s t l a) (kept-first s (t ∷ l) h))
    (λ a. rw (insert-next s t l a) (kept-past s t l (starts-behind s t a k.0) k.1))
    (known (by_start s t))

to_front : (s : Sel) (a b : List Sel) → Reordered (a ++ (s ∷ b)) (s ∷ (a ++ b))
to_front s [] b = reordered_same (s ∷ b)
to_front s (t ∷ a) b = twice (keep t (to_front s a b)) (swap t s (a ++ b))

pub merged_keeps : (l : List Sel) (s : Sel) → Lone s l → Among s (merged l)
unfolding sorted
merged_keeps l s h =
    let a = h.among in
    let r : List Sel = a.ahead ++ a.behind in
    let m : merged l ≡ merged (s ∷ r) = ap merged a.stands ∙ merged-reordered (a.ahead ++ (s ∷ a.behind)) (s ∷ r) (to_front s a.ahead a.behind) in
    subst (Among s) (sym m) (kept s (sorted by_start r) (reordered_shares s (sorted-reordered r) ∙ h.alone))

-- ---- a result is a lone one, or runs forward

-- it stands there, and overlaps none of the others
Alone : Sel → List Sel → Type 0
Alone s [] = ⊥
Alone s (t ∷ l) = ((s ≡ t) × (shares s l ≡ false)) ⊎ ((overlaps s t ≡ false) × Alone s l)

abbrev Forward : Sel → Type 0
Forward s = upto s.anchor s.head ≡ true

alone_lone : (s : Sel) (l : List Sel) → Alone s l → Lone s l
unfolding among_more Alone shares
alone_lone s [] h = absurd h
alone_lone s (t ∷ l) h = go h (alone_lone s l)
  where
    go : ((s ≡ t) × (shares s l ≡ false)) ⊎ ((overlaps s t ≡ false) × Alone s l) → (Alone s l → Lone s l) → Lone s (t ∷ l)
    go (inl k) i = record { among = record { ahead = []; behind = l; stands = ap (λ (x : Sel). x ∷ l) (sym k.0) }; alone = k.1 }
    go (inr k) i = let x = i k.1 in record { among = among_more t x.among; alone = rw k.0 x.alone }

reordered_alone : (x : Sel) {l m : List Sel} → Reordered l m → Alone x l → Alone x m
unfolding Alone shares
reordered_alone x none h = h
reordered_alone x (keep s r) h = ⊎_elim (λ k. inl (k.0, sym (reordered_shares x r) ∙ k.1)) (λ k. inr (k.0, reordered_alone x r k.1)) h
reordered_alone x (swap s t l) h =
    ⊎_elim
    (λ k. let o = neither (overlaps x t) (shares x l) k.1 in inr (o.0, inl (k.0, o.1)))
    (λ k. ⊎_elim (λ j. inl (j.0, rw k.0 j.1)) (λ j. inr (j.0, inr (k.0, j.1))) k.1)
    h
reordered_alone x (twice r q) h = reordered_alone x q (reordered_alone x r h)

In : Sel → List Sel → Type 0
In s [] = ⊥
In s (t ∷ l) = (s ≡ t) ⊎ In s l

among_in : (s : Sel) (l : List Sel) → Among s l → In s l
unfolding In
among_in s l a = subst (In s) (sym a.stands) (at-seam a.ahead)
  where
    at-seam : (u : List Sel) → In s (u ++ (s ∷ a.behind))
    at-seam [] = inl refl
    at-seam (t ∷ u) = inr (at-seam u)

shares-past : (s : Sel) (l : List Sel) → starts_past (end s) l ≡ true → shares s l ≡ false
unfolding starts_past shares
shares-past s [] h = refl
shares-past s (t ∷ l) h =
    let k = both (not (upto (start t) (end s))) (starts_past (end s) l) h in
    rw (not-true (upto (start t) (end s)) k.0, and-false) (shares-past s l k.1)

alone_past : (p : Position) (s : Sel) (l : List Sel) → starts_past p l ≡ true → Alone s l → upto (start s) p ≡ false
unfolding Alone starts_past
alone_past p s [] h a = absurd a
alone_past p s (t ∷ l) h a =
    let k = both (not (upto (start t) p)) (starts_past p l) h in
    ⊎_elim (λ e. ap (λ (x : Sel). upto (start x) p) e.0 ∙ not-true (upto (start t) p) k.0) (λ e. alone_past p s l k.1 e.1) a

collapsed-alone : (s last : Sel) (l : List Sel) → ascending (last ∷ l) ≡ true → In s (collapsed last l) → Alone s (last ∷ l) ⊎ Forward s
unfolding In Alone collapsed shares
collapsed-alone s last [] h i = ⊎_elim (λ e. inl (inl (e, refl))) (λ e. absurd e) i
collapsed-alone s last (t ∷ l) h i =
    ⊎_elim (λ o. over o (collapsed-alone s (merge_two last t) l (ascending-two last t l h) (subst (In s) (collapsed-over last t l o) i)))
    (λ o. past o (collapsed-alone s t l (ascending-tail last t l h)) (subst (In s) (collapsed-past last t l o) i))
    (known (overlaps last t))
  where
    over : overlaps last t ≡ true → Alone s (merge_two last t ∷ l) ⊎ Forward s → Alone s (last ∷ t ∷ l) ⊎ Forward s
    over o (inr f) = inr f
    over o (inl (inl k)) = inr (rw k.0 (two_forward last t))
    over o (inl (inr k)) = let a = apart_two s last t k.0 in inl (inr (a.0, inr (a.1, k.1)))

    past : overlaps last t ≡ false → (In s (collapsed t l) → Alone s (t ∷ l) ⊎ Forward s) → In s (last ∷ collapsed t l) → Alone s (last ∷ t ∷ l) ⊎ Forward s
    past o f (inl e) = inl (inl (e, ap (λ (x : Sel). shares x (t ∷ l)) e ∙ shares-past last (t ∷ l) (all_past last t l h o)))
    past o f (inr i) = ⊎_elim (λ a. inl (inr (rw (alone_past (end last) s (t ∷ l) (all_past last t l h o) a), a))) (λ a. inr a) (f i)

pub merged-alone : (l : List Sel) (s : Sel) → Among s (merged l) → Lone s l ⊎ Forward s
unfolding In collapse
merged-alone l s a = ⊎_elim (λ k. inl (alone_lone s l (reordered_alone s (sorted-reordered l) k))) (λ k. inr k) (go (sorted by_start l) (ascending-sorted l) (among_in s (merged l) a))
  where
    go : (u : List Sel) → ascending u ≡ true → In s (collapse u) → Alone s u ⊎ Forward s
    go [] h i = absurd i
    go (t ∷ u) h i = collapsed-alone s t u h i
