-- What holds of each element of a text and of the place where it stands.
use mathlib.Core.Path.{◌≡◌, refl, sym, ◌∙◌, ap, subst}
use mathlib.Core.Bool.{Bool, true, false}
use mathlib.Core.List.{List, [], ◌∷◌, ◌++◌}
use Rattle.text.specs.declared.Position.{Position}
use Rattle.text.specs.Rows.{◌⊕◌, end_of}
use Rattle.text.proofs.Laws.{end-append, add-positions, add_nothing, end_none}

module _ {A : Type 0} (lf : A → Bool) where
  -- R holds of every element of t and its place, where t begins at o
  unfoldable pub Holds : (Position → A → Type 0) → Position → List A → Type 0
  Holds R o [] = Unit {0}
  Holds R o (x ∷ t) = R o x × Holds R (o ⊕ end_of lf (x ∷ [])) t

  pub end-first : (o : Position) → o ⊕ end_of lf [] ≡ o
  end-first o = rw (end_none lf) (add_nothing o)

  pub end-both : (o : Position) (s u : List A) → o ⊕ end_of lf (s ++ u) ≡ o ⊕ end_of lf s ⊕ end_of lf u
  end-both o s u = ap (λ (q : Position). o ⊕ q) (end-append lf s u) ∙ sym (add-positions o (end_of lf s) (end_of lf u))

  module _ (R : Position → A → Type 0) (o : Position) where
    pub holds_none : Holds R o []
    unfolding Holds
    holds_none = tt

    pub holds_single : (x : A) → R o x → Holds R o (x ∷ [])
    unfolding Holds
    holds_single x h = (h, tt)

  module _ (R : Position → A → Type 0) where
    pub holds_append : (o : Position) (s u : List A) → Holds R o s → Holds R (o ⊕ end_of lf s) u → Holds R o (s ++ u)
    unfolding Holds
    holds_append o [] u h k = subst (λ (q : Position). Holds R q u) (end-first o) k
    holds_append o (x ∷ s) u h k = (h.0, holds_append (o ⊕ end_of lf (x ∷ [])) s u h.1 (subst (λ (q : Position). Holds R q u) (end-both o (x ∷ []) s) k))

    pub holds_left : (o : Position) (s u : List A) → Holds R o (s ++ u) → Holds R o s
    unfolding Holds
    holds_left o [] u h = tt
    holds_left o (x ∷ s) u h = (h.0, holds_left (o ⊕ end_of lf (x ∷ [])) s u h.1)

    pub holds_right : (o : Position) (s u : List A) → Holds R o (s ++ u) → Holds R (o ⊕ end_of lf s) u
    unfolding Holds
    holds_right o [] u h = subst (λ (q : Position). Holds R q u) (sym (end-first o)) h
    holds_right o (x ∷ s) u h = subst (λ (q : Position). Holds R q u) (sym (end-both o (x ∷ []) s)) (holds_right (o ⊕ end_of lf (x ∷ [])) s u h.1)

    -- what holds of each holds of one
    pub holds_one : (o : Position) (s : List A) (x : A) (r : List A) → Holds R o (s ++ x ∷ r) → R (o ⊕ end_of lf s) x
    unfolding Holds
    holds_one o s x r h = (holds_right o s (x ∷ r) h).0

    -- what holds wherever an element stands
    pub holds_anywhere : (t : List A) → ((s : List A) (x : A) (r : List A) → t ≡ s ++ x ∷ r → (p : Position) → R p x) → (o : Position) → Holds R o t
    unfolding Holds
    holds_anywhere [] h o = tt
    holds_anywhere (x ∷ t) h o = (h [] x t refl o, holds_anywhere t (λ s y r q. h (x ∷ s) y r (ap {B = List A} (λ l. x ∷ l) q)) (o ⊕ end_of lf (x ∷ [])))

  -- from a text at o to the same text at u
  pub holds_moved : (R S : Position → A → Type 0) (o u : Position) (t : List A)
      → ((s : List A) (x : A) (r : List A) → t ≡ s ++ x ∷ r → R (o ⊕ end_of lf s) x → S (u ⊕ end_of lf s) x) → Holds R o t → Holds S u t
  unfolding Holds
  holds_moved R S o u [] h e = tt
  holds_moved R S o u (x ∷ t) h e = (
    subst (λ (q : Position). S q x) (end-first u) (h [] x t refl (subst (λ (q : Position). R q x) (sym (end-first o)) e.0)),
    holds_moved R S (o ⊕ end_of lf (x ∷ [])) (u ⊕ end_of lf (x ∷ [])) t
        (λ s y r q k.
        subst (λ (q : Position). S q y) (end-both u (x ∷ []) s)
        (h (x ∷ s) y r (ap {B = List A} (λ l. x ∷ l) q) (subst (λ (q : Position). R q y) (sym (end-both o (x ∷ []) s)) k)))
        e.1,
  )

  -- Where sh carries what is no LF from R to S, and an LF may stand anywhere: a part of the text that moves as sh has it.
  module _ (R S : Position → A → Type 0) (sh : Position → Position) (carry : (p : Position) (x : A) → lf x ≡ false → R p x → S (sh p) x)
      (anywhere : (p : Position) (x : A) → lf x ≡ true → S p x) where
    pub holds_carried : (o u : Position) (t : List A) → ((s : List A) (x : A) (r : List A) → t ≡ s ++ x ∷ r → lf x ≡ false → sh (o ⊕ end_of lf s) ≡ u ⊕ end_of lf s)
        → Holds R o t → Holds S u t
    holds_carried o u t h = holds_moved R S o u t (λ s x r q k. go s x r q k (lf x) refl)
      where
        go : (s : List A) (x : A) (r : List A) → t ≡ s ++ x ∷ r → R (o ⊕ end_of lf s) x → (b : Bool) → lf x ≡ b → S (u ⊕ end_of lf s) x
        go s x r q k true e = anywhere (u ⊕ end_of lf s) x e
        go s x r q k false e = subst (λ (p : Position). S p x) (h s x r q e) (carry (o ⊕ end_of lf s) x e k)
