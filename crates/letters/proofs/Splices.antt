-- One part of a text exchanged for another, and a shift that leaves what is before it and takes what is behind it along.
use mathlib.Core.Path.{◌≡◌, refl, sym, ◌∙◌, ap, subst}
use mathlib.Core.Bool.{Bool, true, false}
use mathlib.Core.Logic.{inr, ⊎_elim}
use mathlib.Core.List.{List, [], ◌∷◌, ◌++◌, append_assoc, append-nil}
use Prim.Native.Nat.{ℕ}
use lib.ListN.{take, drop, take-append-drop}
use Rattle.promise.proofs.Lists.{in_either}
use Rattle.text.specs.declared.Position.{Position}
use Rattle.text.specs.Rows.{at, upto, ◌⊕◌, offset, end_of}
use Rattle.text.proofs.Laws.{end-append, end_take, add-origin, add-positions}
use Rattle.text.proofs.Order.{upto-self}
use Rattle.text.proofs.Adds.{apart, behind}
use Rattle.text.proofs.Holds.{Holds, holds_append, holds_left, holds_right, holds_anywhere, holds_carried, end-both}
use Rattle.text.proofs.Near.{Near, near_front}
use Rattle.letters.proofs.Carries.{Carries}

module _ {A : Type 0} (lf : A → Bool) where
  abbrev end : List A → Position
  end s = end_of lf s

  -- the elements of each part, and what is past the text
  pub record Splice (sh : Position → Position) (P X Y Q : List A) : Type 0 where
    pub ahead : (s : List A) (x : A) (r : List A) → P ≡ s ++ x ∷ r → sh (end s) ≡ end s
    pub inside : (s : List A) (x : A) (r : List A) → X ≡ s ++ x ∷ r → Near lf (P ++ (Y ++ Q)) (sh (end P ⊕ end s))
    pub goes : (s : List A) (x : A) (r : List A) → Q ≡ s ++ x ∷ r → sh (end P ⊕ end X ⊕ end s) ≡ end P ⊕ end Y ⊕ end s
    pub outside : (p : Position) → upto (end (P ++ (X ++ Q))) p ≡ true → upto (end (P ++ (Y ++ Q))) (sh p) ≡ true

  three : (s u v : List A) → end (s ++ (u ++ v)) ≡ end s ⊕ end u ⊕ end v
  three s u v = end-append lf s (u ++ v) ∙ end-both lf (end s) u v

  -- where all that is behind the part goes on, past the text too
  pub past-goes : (sh : Position → Position) (P X Y Q : List A) → ((d : Position) → sh (end P ⊕ end X ⊕ d) ≡ end P ⊕ end Y ⊕ d) → (p : Position)
      → upto (end (P ++ (X ++ Q))) p ≡ true → upto (end (P ++ (Y ++ Q))) (sh p) ≡ true
  past-goes sh P X Y Q goes p h =
      let d = apart (end (P ++ (X ++ Q))) p h in
      let x : p ≡ end P ⊕ end X ⊕ (end Q ⊕ d.by) = d.is ∙ ap (λ (q : Position). q ⊕ d.by) (three P X Q) ∙ add-positions (end P ⊕ end X) (end Q) d.by in
      let y : sh p ≡ end (P ++ (Y ++ Q)) ⊕ d.by =
      ap sh x ∙ goes (end Q ⊕ d.by) ∙ sym (add-positions (end P ⊕ end Y) (end Q) d.by) ∙ ap (λ (q : Position). q ⊕ d.by) (sym (three P Y Q)) in
      rw y (behind (end (P ++ (Y ++ Q))) d.by)

  module _ {sh : Position → Position} {P X Y Q : List A} (c : Splice sh P X Y Q) where
    module _ (R S : Position → A → Type 0) (carry : (p : Position) (x : A) → lf x ≡ false → R p x → S (sh p) x) (anywhere : (p : Position) (x : A) → lf x ≡ true → S p x) where
      splice_letters : ((s : List A) (x : A) (r : List A) → Y ≡ s ++ x ∷ r → (p : Position) → S p x) → Holds lf R (at 0 0) (P ++ (X ++ Q)) → Holds lf S (at 0 0) (P ++ (Y ++ Q))
      splice_letters fresh h =
          let o : at 0 0 ⊕ end P ≡ end P = add-origin (end P) in
          let k : Holds lf R (end P) (X ++ Q) = rw o at (holds_right lf R (at 0 0) P (X ++ Q) h) in
          let p : Holds lf S (at 0 0) P =
          holds_carried lf R S sh carry anywhere (at 0 0) (at 0 0) P (λ s x r i n. rw (add-origin (end s)) (c.ahead s x r i)) (holds_left lf R (at 0 0) P (X ++ Q) h) in
          let q : Holds lf S (end P ⊕ end Y) Q =
          holds_carried lf R S sh carry anywhere (end P ⊕ end X) (end P ⊕ end Y) Q (λ s x r i n. c.goes s x r i) (holds_right lf R (end P) X Q k) in
          holds_append lf S (at 0 0) P (Y ++ Q) p (rw o (holds_append lf S (end P) Y Q (holds_anywhere lf S Y fresh (end P)) q))

    -- where an element stood
    element_near : (s : List A) (x : A) (r : List A) → P ++ (X ++ Q) ≡ s ++ x ∷ r → Near lf (P ++ (Y ++ Q)) (sh (end s))
    element_near s x r e = ⊎_elim in_front (λ h. ⊎_elim (in_part h) (in_back h) (in_either X Q h.0 x r h.2)) (in_either P (X ++ Q) s x r e)
      where
        in_front : (m : List A) × (P ≡ s ++ x ∷ m) → Near lf (P ++ (Y ++ Q)) (sh (end s))
        in_front h =
            let w : s ++ ((x ∷ h.0) ++ (Y ++ Q)) ≡ P ++ (Y ++ Q) = sym (append_assoc s (x ∷ h.0) (Y ++ Q)) ∙ ap (λ (l : List A). l ++ (Y ++ Q)) (sym h.1) in
            rw (c.ahead s x h.0 h.1) (subst (λ (l : List A). Near lf l (end s)) w (near_front lf s ((x ∷ h.0) ++ (Y ++ Q))))

        in_part : (h : (m : List A) × (s ≡ P ++ m) × (X ++ Q ≡ m ++ x ∷ r)) → (n : List A) × (X ≡ h.0 ++ x ∷ n) → Near lf (P ++ (Y ++ Q)) (sh (end s))
        in_part h k = rw (h.1, end-append lf P h.0) (c.inside h.0 x k.0 k.1)

        in_back : (h : (m : List A) × (s ≡ P ++ m) × (X ++ Q ≡ m ++ x ∷ r)) → (n : List A) × (h.0 ≡ X ++ n) × (Q ≡ n ++ x ∷ r) → Near lf (P ++ (Y ++ Q)) (sh (end s))
        in_back h k =
            let n : List A = k.0 in
            let i : end s ≡ end P ⊕ end X ⊕ end n = ap end (h.1 ∙ ap (λ (l : List A). P ++ l) k.1) ∙ three P X n in
            let m : sh (end s) ≡ end (P ++ (Y ++ n)) = ap sh i ∙ c.goes n x r k.2 ∙ sym (three P Y n) in
            let w : (P ++ (Y ++ n)) ++ x ∷ r ≡ P ++ (Y ++ Q) = append_assoc P (Y ++ n) (x ∷ r) ∙ ap (λ (l : List A). P ++ l) (append_assoc Y n (x ∷ r) ∙ ap (λ (l : List A). Y ++ l) (sym k.2)) in
            rw m (subst (λ (l : List A). Near lf l (end (P ++ (Y ++ n)))) w (near_front lf (P ++ (Y ++ n)) (x ∷ r)))

    place-near : (o : ℕ) → Near lf (P ++ (Y ++ Q)) (sh (end (take o (P ++ (X ++ Q)))))
    place-near o = go (drop o t) refl
      where
        t : List A
        t = P ++ (X ++ Q)

        go : (r : List A) → drop o t ≡ r → Near lf (P ++ (Y ++ Q)) (sh (end (take o t)))
        go [] e =
            let w : take o t ≡ t = sym (append-nil (take o t)) ∙ ap (λ (l : List A). take o t ++ l) (sym e) ∙ take-append-drop o t in
            inr (rw w (c.outside (end t) (upto-self (end t))))
        go (x ∷ r) e = element_near (take o t) x r (sym (take-append-drop o t) ∙ ap (λ (l : List A). take o t ++ l) e)

    pub carries_splice : {Free : A → Type 0} → ((x : A) → lf x ≡ true → Free x) → ((s : List A) (x : A) (r : List A) → Y ≡ s ++ x ∷ r → Free x)
        → ((p q : Position) → Near lf (P ++ (X ++ Q)) p → upto p q ≡ true → upto (sh p) (sh q) ≡ true) → Carries lf Free sh (P ++ (X ++ Q)) (P ++ (Y ++ Q))
    carries_splice lfs fresh order = record {
      letters = λ R S carry free h. splice_letters R S carry (λ p x e. free p x (lfs x e)) (λ s x r i p. free p x (fresh s x r i)) h;
      marks = λ p h.
          ⊎_elim (λ k. subst (λ (q : Position). Near lf (P ++ (Y ++ Q)) (sh q)) (end_take lf (P ++ (X ++ Q)) p ∙ k) (place-near (offset lf (P ++ (X ++ Q)) p))) (λ k. inr (c.outside p k)) h;
      order = order;
    }
