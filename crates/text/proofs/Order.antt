-- The order of positions: by row, then column.
use mathlib.Core.Bool.{Bool, true, false, cond, not, ◌&&◌, ◌||◌}
use mathlib.Core.Logic.{◌⊎◌, inl, inr, ⊎_elim}
use mathlib.Core.Path.{◌≡◌, refl, sym, ap, ◌∙◌}
use Prim.Native.Nat.{ℕ, ◌≤◌, ◌<◌, min, max}
use native.Mathlib.Nat.{eq-or-lt_of_le}
use native.Mathlib.Omega.{arith}
use borrow.Author.Tests.{ltb-true, ltb-false, leb-true, leb-false, eqb-true, eqb-false, lt-ltb, le-ltb, le-leb, eq-eqb, ne_eqb}
use lib.Dec.{ltb, eqb, leb}
use Rattle.std.specs.Ordering.{is_lt, is_le, is_some_and, nat_cmp, ord_min, ord_max, ordering_then, partial_ordering_then}
use Rattle.std.specs.declared.cmp.Ordering.TheVariants.{Less, Equal, Greater}
use Rattle.std.specs.declared.cmp.Ordering.{Ordering}
use Rattle.std.specs.Prelude.{Some}
use Rattle.promise.proofs.Bools.{clash, unless}
use Rattle.text.specs.declared.Row.{Row}
use Rattle.text.specs.declared.Col.{Col}
use Rattle.text.specs.declared.CharOffset.{CharOffset}
use Rattle.text.specs.declared.Position.{Position}
use Rattle.text.specs.Rows.{at, upto, earlier, later}

-- rows and columns compare as their numbers do
pub is_lt-ltb : (a b : ℕ) → is_lt (nat_cmp a b) ≡ ltb a b
is_lt-ltb a b = go (ltb a b) (eqb a b)
  where
    go : (p q : Bool) → is_lt (cond p Less (cond q Equal Greater)) ≡ p
    go true q = refl
    go false true = refl
    go false false = refl

-- what the test says, in numbers
abbrev pub Upto : Position → Position → Type 0
Upto p q = (p.row.0 < q.row.0) ⊎ ((p.row.0 ≡ q.row.0) × (p.col.0 ≤ q.col.0))

abbrev pub Past : Position → Position → Type 0
Past p q = (q.row.0 < p.row.0) ⊎ ((q.row.0 ≡ p.row.0) × (q.col.0 < p.col.0))

said : (a b c : Bool) → (a || (b && c)) ≡ true → (a ≡ true) ⊎ ((b ≡ true) × (c ≡ true))
said true b c e = inl refl
said false true c e = inr (refl, e)
said false false c e = let z : false ≡ true = e in inl e

denied : (a b c : Bool) → (a || (b && c)) ≡ false → (a ≡ false) × ((b ≡ false) ⊎ (c ≡ false))
denied true b c e = let z : true ≡ false = e in (e, inl cc)
denied false true c e = (refl, inr e)
denied false false c e = (refl, inl refl)

pub upto_is : (p q : Position) → upto p q ≡ true → Upto p q
upto_is p q e =
    ⊎_elim (λ h. inl (ltb-true _ _ h)) (λ h. inr (eqb-true _ _ h.0, leb-true _ _ h.1)) (said (ltb p.row.0 q.row.0) (eqb p.row.0 q.row.0) (leb p.col.0 q.col.0) e)

say : (a b c : Bool) → (a ≡ true) ⊎ ((b ≡ true) × (c ≡ true)) → (a || (b && c)) ≡ true
say true b c h = refl
say false b c h = ⊎_elim (λ e. let z : false ≡ true = e in cc) (λ e. rw (e.0, e.1)) h

pub is_upto : (p q : Position) → Upto p q → upto p q ≡ true
is_upto p q h =
    say (ltb p.row.0 q.row.0) (eqb p.row.0 q.row.0) (leb p.col.0 q.col.0) (⊎_elim (λ l. inl (lt-ltb _ _ l)) (λ e. inr (eq-eqb _ _ e.0, le-leb _ _ e.1)) h)

pub past_is : (p q : Position) → upto p q ≡ false → Past p q
past_is p q e =
    let d = denied (ltb p.row.0 q.row.0) (eqb p.row.0 q.row.0) (leb p.col.0 q.col.0) e in
    let h : q.row.0 ≤ p.row.0 = ltb-false _ _ d.0 in
    ⊎_elim
    (λ eq. ⊎_elim (λ ne. absurd (eqb-false _ _ ne (sym eq))) (λ gt. inr (eq, omega (arith, leb-false p.col.0 q.col.0 gt))) d.1)
    (λ lt. inl lt) (eq-or-lt_of_le {n = q.row.0} {m = p.row.0} h)

pub row_le : (p q : Position) → upto p q ≡ true → p.row.0 ≤ q.row.0
row_le p q e = ⊎_elim (λ h. omega arith) (λ h. omega arith) (upto_is p q e)

pub col_le : (p q : Position) → upto p q ≡ true → q.row.0 ≡ p.row.0 → p.col.0 ≤ q.col.0
col_le p q e r = ⊎_elim (λ h. absurd (omega arith)) (λ h. h.1) (upto_is p q e)

pub upto-self : (p : Position) → upto p p ≡ true
upto-self p = is_upto p p (inr (refl, omega arith))

pub upto-trans : (p q r : Position) → upto p q ≡ true → upto q r ≡ true → upto p r ≡ true
upto-trans p q r e f =
    is_upto p r (⊎_elim
    (λ h. ⊎_elim (λ k. inl (omega arith)) (λ k. inl (omega arith)) (upto_is q r f))
    (λ h. ⊎_elim (λ k. inl (omega arith)) (λ k. inr (omega arith, omega arith)) (upto_is q r f)) (upto_is p q e))

pub upto-total : (p q : Position) → upto p q ≡ false → upto q p ≡ true
upto-total p q e = is_upto q p (⊎_elim (λ h. inl h) (λ h. inr (h.0, omega arith)) (past_is p q e))

pub upto-both : (p q : Position) → upto p q ≡ true → upto q p ≡ true → p ≡ q
upto-both p q e f =
    ⊎_elim
    (λ h. absurd (⊎_elim {C = ⊥} (λ k. omega arith) (λ k. omega arith) (upto_is q p f)))
    (λ h. ⊎_elim (λ k. absurd (omega arith)) (λ k. let a : p.row.0 ≡ q.row.0 = h.0 in let b : p.col.0 ≡ q.col.0 = omega arith in ap (λ (n : ℕ). at n p.col.0) a ∙ ap (λ (n : ℕ). at q.row.0 n) b) (upto_is q p f))
    (upto_is p q e)

-- what goes on from past r is past r
pub past-beyond : (p q r : Position) → upto p r ≡ false → upto p q ≡ true → upto q r ≡ false
past-beyond p q r f e = unless (upto q r) (λ h. clash (upto-trans p q r e h) f)

-- ---- the earlier and the later of two

pub earlier-first : (p q : Position) → upto p q ≡ true → earlier p q ≡ p
earlier-first p q e = rw e

pub later_second : (p q : Position) → upto p q ≡ true → later p q ≡ q
later_second p q e = rw e

pub earlier-left : (p q : Position) → upto (earlier p q) p ≡ true
earlier-left p q = go (upto p q) refl
  where
    go : (b : Bool) → upto p q ≡ b → upto (cond b p q) p ≡ true
    go true e = upto-self p
    go false e = upto-total p q e

pub earlier-right : (p q : Position) → upto (earlier p q) q ≡ true
earlier-right p q = go (upto p q) refl
  where
    go : (b : Bool) → upto p q ≡ b → upto (cond b p q) q ≡ true
    go true e = e
    go false e = upto-self q

pub later-left : (p q : Position) → upto p (later p q) ≡ true
later-left p q = go (upto p q) refl
  where
    go : (b : Bool) → upto p q ≡ b → upto p (cond b q p) ≡ true
    go true e = e
    go false e = upto-self p

pub later-right : (p q : Position) → upto q (later p q) ≡ true
later-right p q = go (upto p q) refl
  where
    go : (b : Bool) → upto p q ≡ b → upto q (cond b q p) ≡ true
    go true e = upto-self q
    go false e = upto-total p q e

pub upto-earlier : (r p q : Position) → upto r p ≡ true → upto r q ≡ true → upto r (earlier p q) ≡ true
upto-earlier r p q e f = go (upto p q)
  where
    go : (b : Bool) → upto r (cond b p q) ≡ true
    go true = e
    go false = f

pub later-upto : (p q r : Position) → upto p r ≡ true → upto q r ≡ true → upto (later p q) r ≡ true
later-upto p q r e f = go (upto p q)
  where
    go : (b : Bool) → upto (cond b q p) r ≡ true
    go true = f
    go false = e

pub earlier-one : (p q r : Position) → upto (earlier p q) r ≡ true → (upto p r ≡ true) ⊎ (upto q r ≡ true)
earlier-one p q r = go (upto p q)
  where
    go : (b : Bool) → upto (cond b p q) r ≡ true → (upto p r ≡ true) ⊎ (upto q r ≡ true)
    go true e = inl e
    go false e = inr e

pub later-one : (r p q : Position) → upto r (later p q) ≡ true → (upto r p ≡ true) ⊎ (upto r q ≡ true)
later-one r p q = go (upto p q)
  where
    go : (b : Bool) → upto r (cond b q p) ≡ true → (upto r p ≡ true) ⊎ (upto r q ≡ true)
    go true e = inr e
    go false e = inl e

pub past-later : (r p q : Position) → upto r p ≡ false → upto r q ≡ false → upto r (later p q) ≡ false
past-later r p q e f = unless (upto r (later p q)) (λ h. ⊎_elim (λ k. clash k e) (λ k. clash k f) (later-one r p q h))

pub earlier-swap : (p q : Position) → earlier p q ≡ earlier q p
earlier-swap p q =
    upto-both _ _ (upto-earlier (earlier p q) q p (earlier-right p q) (earlier-left p q)) (upto-earlier (earlier q p) p q (earlier-right q p) (earlier-left q p))

pub later-swap : (p q : Position) → later p q ≡ later q p
later-swap p q = upto-both _ _ (later-upto p q (later q p) (later-right q p) (later-left q p)) (later-upto q p (later p q) (later-right p q) (later-left p q))

pub earlier-later : (p q : Position) → upto (earlier p q) (later p q) ≡ true
earlier-later p q = upto-trans (earlier p q) p (later p q) (earlier-left p q) (later-left p q)

-- which of three comes last does not depend on which two are compared first
pub later-past : (p q r : Position) → later (later p q) r ≡ later (later p r) q
later-past p q r = upto-both _ _ (least p q r (later (later p r) q) (two p r q) (later-right (later p r) q) (one p r q)) (least p r q (later (later p q) r) (two p q r) (later-right (later p q) r) (one p q r))
  where
    one : (p q r : Position) → upto q (later (later p q) r) ≡ true
    one p q r = upto-trans q (later p q) _ (later-right p q) (later-left (later p q) r)

    two : (p q r : Position) → upto p (later (later p q) r) ≡ true
    two p q r = upto-trans p (later p q) _ (later-left p q) (later-left (later p q) r)

    least : (p q r m : Position) → upto p m ≡ true → upto q m ≡ true → upto r m ≡ true → upto (later (later p q) r) m ≡ true
    least p q r m e f g = later-upto (later p q) r m (later-upto p q m e f) g

-- ---- what std's `min`, `max` and `<=` say of the derived order

module _ {A : Type 0} (number : A → ℕ) (a b : A) where
  least : number (ord_min (λ x y. nat_cmp (number x) (number y)) a b) ≡ min (number a) (number b)
  least = rw (is_lt-ltb (number b) (number a)) (go (ltb (number b) (number a)) refl)
    where
      go : (t : Bool) → ltb (number b) (number a) ≡ t → number (cond t b a) ≡ min (number a) (number b)
      go true e = omega (arith, ltb-true _ _ e)
      go false e = omega (arith, ltb-false _ _ e)

  greatest : number (ord_max (λ x y. nat_cmp (number x) (number y)) a b) ≡ max (number a) (number b)
  greatest = rw (is_lt-ltb (number b) (number a)) (go (ltb (number b) (number a)) refl)
    where
      go : (t : Bool) → ltb (number b) (number a) ≡ t → number (cond t a b) ≡ max (number a) (number b)
      go true e = omega (arith, ltb-true _ _ e)
      go false e = omega (arith, ltb-false _ _ e)

pub row_min : (a b : Row) {r : Row} → r ≡ ord_min (λ x y. nat_cmp x.0 y.0) a b → r.0 ≡ min a.0 b.0
row_min a b e = ap (λ (x : Row). x.0) e ∙ least (λ (x : Row). x.0) a b

pub row_max : (a b : Row) {r : Row} → r ≡ ord_max (λ x y. nat_cmp x.0 y.0) a b → r.0 ≡ max a.0 b.0
row_max a b e = ap (λ (x : Row). x.0) e ∙ greatest (λ (x : Row). x.0) a b

pub col_min : (a b : Col) {r : Col} → r ≡ ord_min (λ x y. nat_cmp x.0 y.0) a b → r.0 ≡ min a.0 b.0
col_min a b e = ap (λ (x : Col). x.0) e ∙ least (λ (x : Col). x.0) a b

pub col_max : (a b : Col) {r : Col} → r ≡ ord_max (λ x y. nat_cmp x.0 y.0) a b → r.0 ≡ max a.0 b.0
col_max a b e = ap (λ (x : Col). x.0) e ∙ greatest (λ (x : Col). x.0) a b

pub offset_max : (a b : CharOffset) {r : CharOffset} → r ≡ ord_max (λ x y. nat_cmp x.0 y.0) a b → r.0 ≡ max a.0 b.0
offset_max a b e = ap (λ (x : CharOffset). x.0) e ∙ greatest (λ (x : CharOffset). x.0) a b

abbrev position_cmp : Position → Position → Ordering
position_cmp p q = ordering_then (nat_cmp p.row.0 q.row.0) (nat_cmp p.col.0 q.col.0)

lt_then : (a b c d : ℕ) → is_lt (ordering_then (nat_cmp a b) (nat_cmp c d)) ≡ (ltb a b || (eqb a b && ltb c d))
lt_then a b c d = go (ltb a b) (eqb a b)
  where
    go : (x y : Bool) → is_lt (ordering_then (cond x Less (cond y Equal Greater)) (nat_cmp c d)) ≡ (x || (y && ltb c d))
    go true y = refl
    go false true = is_lt-ltb c d
    go false false = refl

-- the one comes first where the other is not up to it
lt-upto : (p q : Position) → is_lt (position_cmp q p) ≡ not (upto p q)
lt-upto p q = lt_then q.row.0 p.row.0 q.col.0 p.col.0 ∙ go (upto p q) refl
  where
    go : (t : Bool) → upto p q ≡ t → (ltb q.row.0 p.row.0 || (eqb q.row.0 p.row.0 && ltb q.col.0 p.col.0)) ≡ not t
    go true e =
        ⊎_elim
        (λ l. rw (le-ltb q.row.0 p.row.0 (omega arith), ne_eqb q.row.0 p.row.0 (omega arith)))
        (λ k. rw (le-ltb q.row.0 p.row.0 (omega arith), eq-eqb q.row.0 p.row.0 (sym k.0), le-ltb q.col.0 p.col.0 k.1)) (upto_is p q e)
    go false e =
        say (ltb q.row.0 p.row.0) (eqb q.row.0 p.row.0) (ltb q.col.0 p.col.0) (⊎_elim (λ l. inl (lt-ltb _ _ l)) (λ k. inr (eq-eqb _ _ k.0, lt-ltb _ _ k.1)) (past_is p q e))

pub pos_min : (p q : Position) {r : Position} → r ≡ ord_min position_cmp p q → r ≡ earlier p q
pos_min p q e = e ∙ rw (lt-upto p q) (go (upto p q))
  where
    go : (t : Bool) → cond (not t) q p ≡ cond t p q
    go true = refl
    go false = refl

pub pos_max : (p q : Position) {r : Position} → r ≡ ord_max position_cmp p q → r ≡ later p q
pos_max p q e = e ∙ rw (lt-upto p q) (go (upto p q))
  where
    go : (t : Bool) → cond (not t) p q ≡ cond t q p
    go true = refl
    go false = refl

is_le-leb : (a b : ℕ) → is_le (nat_cmp a b) ≡ leb a b
is_le-leb a b = go (leb a b) refl
  where
    go : (t : Bool) → leb a b ≡ t → is_le (nat_cmp a b) ≡ t
    go true e = ⊎_elim (λ k. rw (le-ltb a b (omega arith), eq-eqb a b k)) (λ l. rw (lt-ltb a b l)) (eq-or-lt_of_le {n = a} {m = b} (leb-true _ _ e))
    go false e = rw (le-ltb a b (omega (arith, leb-false a b e)), ne_eqb a b (omega (arith, leb-false a b e)))

pub pos_le :
    (p q : Position) {t : Bool}
    → t ≡ is_some_and is_le (partial_ordering_then (Some (nat_cmp p.row.0 q.row.0)) (Some (nat_cmp p.col.0 q.col.0))) → t ≡ upto p q
pos_le p q e = e ∙ go (ltb p.row.0 q.row.0) (eqb p.row.0 q.row.0)
  where
    go : (x y : Bool) → is_some_and is_le (partial_ordering_then (Some (cond x Less (cond y Equal Greater))) (Some (nat_cmp p.col.0 q.col.0))) ≡ (x || (y && leb p.col.0 q.col.0))
    go true y = refl
    go false true = is_le-leb p.col.0 q.col.0
    go false false = refl
