-- A shift that goes with a change of a text: it carries letters to where they stand then, and marks to marks, in order. Such changes one after another.
use mathlib.Core.Path.{◌≡◌, refl, subst}
use mathlib.Core.Bool.{Bool, true, false}
use mathlib.Core.Logic.{◌⊎◌, inl, inr, ⊎_elim}
use mathlib.Core.List.{List}
use Rattle.text.specs.declared.Position.{Position}
use Rattle.text.specs.Rows.{at, upto}
use Rattle.text.proofs.Holds.{Holds, holds_carried}
use Rattle.text.proofs.Near.{Near}

module _ {A : Type 0} (lf : A → Bool) where
  -- Free elements, LF among them, may stand anywhere.
  pub record Carries (Free : A → Type 0) (sh : Position → Position) (t u : List A) : Type 1 where
    pub letters : (R S : Position → A → Type 0) → ((p : Position) (x : A) → lf x ≡ false → R p x → S (sh p) x) → ((p : Position) (x : A) → Free x → S p x)
        → Holds lf R (at 0 0) t → Holds lf S (at 0 0) u
    pub marks : (p : Position) → Near lf t p → Near lf u (sh p)
    pub order : (p q : Position) → Near lf t p → upto p q ≡ true → upto (sh p) (sh q) ≡ true

  module _ {Free : A → Type 0} where
    pub carries_then : {f g : Position → Position} {t u v : List A} → Carries Free f t u → Carries Free g u v → Carries Free (λ p. g (f p)) t v
    carries_then {f} {g} {t} {u} {v} c d = record {
      letters = λ R S carry free h.
          d.letters (λ q x. Free x ⊎ ((p : Position) × (f p ≡ q) × R p x)) S
          (λ q x n m. ⊎_elim (free (g q) x) (λ e. subst (λ (z : Position). S (g z) x) e.1 (carry e.0 x n e.2)) m) free
          (c.letters R (λ q x. Free x ⊎ ((p : Position) × (f p ≡ q) × R p x)) (λ p x n r. inr (p, refl, r)) (λ p x w. inl w) h);
      marks = λ p m. d.marks (f p) (c.marks p m);
      order = λ p q m h. d.order (f p) (f q) (c.marks p m) (c.order p q m h);
    }

    -- by another name
    pub carries_as : {f g : Position → Position} {t u v : List A} → ((p : Position) → f p ≡ g p) → u ≡ v → Carries Free f t u → Carries Free g t v
    carries_as {f} {g} {t} {u} {v} e w c = record {
      letters = λ R S carry free h. subst (Holds lf S (at 0 0)) w (c.letters R S (λ p x n r. rw (e p) (carry p x n r)) free h);
      marks = λ p m. rw (← e p, ← w) (c.marks p m);
      order = λ p q m h. rw (← e p, ← e q) (c.order p q m h);
    }

    -- nothing moves
    pub carries_none : ((x : A) → lf x ≡ true → Free x) → (t : List A) → Carries Free (λ p. p) t t
    carries_none lfs t = record {
      letters = λ R S carry free. holds_carried lf R S (λ p. p) carry (λ p x e. free p x (lfs x e)) (at 0 0) (at 0 0) t (λ s x r i n. refl);
      marks = λ p m. m;
      order = λ p q m h. h;
    }
