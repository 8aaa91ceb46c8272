-- Two selections merged.
use mathlib.Core.Bool.{true, false, ◌&&◌, ◌||◌, or-true}
use mathlib.Core.Logic.{⊎_elim}
use mathlib.Core.Path.{◌≡◌, sym, ap, ap₂, ◌∙◌}
use Rattle.promise.proofs.Bools.{both, both_true, either, known, agree, unless, clash}
use Rattle.text.specs.declared.Position.{Position}
use Rattle.text.specs.Rows.{upto, earlier, later}
use Rattle.text.proofs.Order.{upto-trans, upto-total, earlier-first, earlier-left, earlier-right, earlier-one, earlier-swap, later_second, later-left, later-right, later-one, later-swap, later-past}
use Rattle.select.specs.declared.Sel.{Sel}
use Rattle.select.specs.Sels.{sel, start, end, covers, overlaps}
use Rattle.select.proofs.Overlaps.{start-end}
use Rattle.merge.specs.Merging.{merge_two}

pub two_forward : (s t : Sel) → upto (merge_two s t).anchor (merge_two s t).head ≡ true
two_forward s t =
    upto-trans (earlier (start s) (start t)) (start s) (later (end s) (end t)) (earlier-left (start s) (start t))
    (upto-trans (start s) (end s) (later (end s) (end t)) (start-end s) (later-left (end s) (end t)))

pub start-two : (s t : Sel) → start (merge_two s t) ≡ earlier (start s) (start t)
start-two s t = earlier-first (earlier (start s) (start t)) (later (end s) (end t)) (two_forward s t)

pub end-two : (s t : Sel) → end (merge_two s t) ≡ later (end s) (end t)
end-two s t = later_second (earlier (start s) (start t)) (later (end s) (end t)) (two_forward s t)

pub two_swap : (s t : Sel) → merge_two s t ≡ merge_two t s
two_swap s t = ap₂ sel (earlier-swap (start s) (start t)) (later-swap (end s) (end t))

-- Of two in order, the merged one starts where the first does.
pub start-after : (s t : Sel) → upto (start s) (start t) ≡ true → start (merge_two s t) ≡ start s
start-after s t e = start-two s t ∙ earlier-first (start s) (start t) e

-- Of two behind one, either may be merged to it first.
pub two_past : (r s t : Sel) → upto (start r) (start s) ≡ true → upto (start r) (start t) ≡ true → merge_two (merge_two r s) t ≡ merge_two (merge_two r t) s
two_past r s t e f = three r s t e f ∙ ap (sel (start r)) (later-past (end r) (end s) (end t)) ∙ sym (three r t s f e)
  where
    three : (r s t : Sel) → upto (start r) (start s) ≡ true → upto (start r) (start t) ≡ true → merge_two (merge_two r s) t ≡ sel (start r) (later (later (end r) (end s)) (end t))
    three r s t e f =
        ap₂ (λ (p q : Position). sel (earlier p (start t)) (later q (end t))) (start-after r s e) (end-two r s)
        ∙ ap (λ (p : Position). sel p (later (later (end r) (end s)) (end t))) (earlier-first (start r) (start t) f)

-- what either of two spans covers that share a position
span-two : (a b c d p : Position) → upto a d ≡ true → upto c b ≡ true → (upto (earlier a c) p && upto p (later b d)) ≡ ((upto a p && upto p b) || (upto c p && upto p d))
span-two a b c d p ad cb =
    agree (upto (earlier a c) p && upto p (later b d)) ((upto a p && upto p b) || (upto c p && upto p d)) apart joined
  where
    left : upto a p ≡ true → upto p b ≡ true → ((upto a p && upto p b) || (upto c p && upto p d)) ≡ true
    left e f = rw (e, f)

    right : upto c p ≡ true → upto p d ≡ true → ((upto a p && upto p b) || (upto c p && upto p d)) ≡ true
    right e f = rw (e, f) (or-true (upto a p && upto p b))

    over : upto a p ≡ true → upto p d ≡ true → ((upto a p && upto p b) || (upto c p && upto p d)) ≡ true
    over e f = ⊎_elim (λ h. left e h) (λ h. right (upto-trans c b p cb (upto-total p b h)) f) (known (upto p b))

    under : upto c p ≡ true → upto p b ≡ true → ((upto a p && upto p b) || (upto c p && upto p d)) ≡ true
    under e f = ⊎_elim (λ h. left h f) (λ h. right e (upto-trans p a d (upto-total a p h) ad)) (known (upto a p))

    apart : (upto (earlier a c) p && upto p (later b d)) ≡ true → ((upto a p && upto p b) || (upto c p && upto p d)) ≡ true
    apart h =
        let k = both (upto (earlier a c) p) (upto p (later b d)) h in
        ⊎_elim (λ e. ⊎_elim (left e) (over e) (later-one p b d k.1)) (λ e. ⊎_elim (under e) (right e) (later-one p b d k.1)) (earlier-one a c p k.0)

    joined : ((upto a p && upto p b) || (upto c p && upto p d)) ≡ true → (upto (earlier a c) p && upto p (later b d)) ≡ true
    joined h =
        ⊎_elim
        (λ e. let k = both (upto a p) (upto p b) e in both_true (upto-trans (earlier a c) a p (earlier-left a c) k.0) (upto-trans p b (later b d) k.1 (later-left b d)))
        (λ e. let k = both (upto c p) (upto p d) e in both_true (upto-trans (earlier a c) c p (earlier-right a c) k.0) (upto-trans p d (later b d) k.1 (later-right b d)))
        (either (upto a p && upto p b) (upto c p && upto p d) h)

pub covers-two : (s t : Sel) (p : Position) → overlaps s t ≡ true → covers (merge_two s t) p ≡ (covers s p || covers t p)
covers-two s t p e =
    let o = both (upto (start s) (end t)) (upto (start t) (end s)) e in
    ap₂ (λ (a b : Position). upto a p && upto p b) (start-two s t) (end-two s t) ∙ span-two (start s) (end s) (start t) (end t) p o.0 o.1

-- What overlaps one of two overlaps the merged one.
overlaps-more : (r s t : Sel) → overlaps r s ≡ true → overlaps r (merge_two s t) ≡ true
overlaps-more r s t e =
    let o = both (upto (start r) (end s)) (upto (start s) (end r)) e in
    ap₂ (λ (a b : Position). upto (start r) b && upto a (end r)) (start-two s t) (end-two s t)
    ∙ both_true (upto-trans (start r) (end s) (later (end s) (end t)) o.0 (later-left (end s) (end t))) (upto-trans (earlier (start s) (start t)) (start s) (end r) (earlier-left (start s) (start t)) o.1)

pub apart_two : (r s t : Sel) → overlaps r (merge_two s t) ≡ false → (overlaps r s ≡ false) × (overlaps r t ≡ false)
apart_two r s t e = (
  unless (overlaps r s) (λ h. clash (overlaps-more r s t h) e),
  unless (overlaps r t) (λ h. clash (ap (overlaps r) (two_swap s t) ∙ overlaps-more r t s h) e),
)
