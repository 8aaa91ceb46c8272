-- The statements of edits on texts.
use mathlib.Core.Path.{◌≡◌, refl, sym, ◌∙◌, ap, subst}
use mathlib.Core.Bool.{true, false}
use mathlib.Core.Logic.{◌⊎◌, inl, inr, ⊎_elim}
use mathlib.Core.List.{List, [], ◌∷◌, map, map-id}
use Prim.Native.Nat.{ℕ, suc}
use Rattle.promise.proofs.Bools.{clash}
use Rattle.text.specs.declared.Position.{Position}
use Rattle.text.specs.Rows.{at, upto, ◌⊕◌, end_of}
use Rattle.text.specs.Text.{is_lf}
use Rattle.text.proofs.Laws.{add-origin}
use Rattle.text.proofs.Holds.{Holds, holds_one}
use Rattle.edit.specs.Edits.{Whole}
use Rattle.edit.specs.Refusals.{spaces, payload_ok}
use Rattle.edit.proofs.Maps.{map-end}
use Rattle.shift.specs.Answers.{Followed, to}
use Rattle.shift.specs.Kinds.{shifted}
use Rattle.origins.specs.Origins.{Traced, traced, opening, value, lf_at, opened_at, opened, numbered, made_by, traced_by, traced_run}
use Rattle.origins.specs.Theorems.{edited_text}
use Rattle.origins.proofs.Values.{opened-value, numbered-value, traced-value}
use Rattle.origins.proofs.Fresh.{no_padding, no_space, no_payload}
use Rattle.letters.specs.Keeps.{Keeps, KeepsWhole, KeepsRun, then_shifted, shifted_over}
use Rattle.letters.specs.Theorems.{LettersStayRun, Markable, MarksMeet, LandedRun, MarksMeetRun}
use Rattle.letters.proofs.Goings.{Goes, goes}

-- ---- letters

-- an LF, or none that stood in the opening text
abbrev pub NoLetter : Traced → Type 0
NoLetter c = (lf_at c ≡ true) ⊎ ((p : Position) → c.origin ≡ opening p → ⊥)

-- edit k, of traced characters
pub goes_traced : (k : ℕ) (t : List Traced) (w : Whole ℕ) → KeepsWhole (map value t) w → Goes value (made_by k) NoLetter t (numbered k 0 w.payload) w.first w.second w.edit
goes_traced k t w h =
    goes value (made_by k) (λ c e. inl e) tt tt (inr (no_padding k)) (inr (no_space k)) t (numbered k 0 w.payload) w.first w.second
    (λ u c v i. inr (no_payload k 0 w.payload u c v i)) w.edit h.0 (rw (numbered-value k 0 w.payload) h.1)

pub goes_to : (k : ℕ) (t : List Traced) (w : Whole ℕ) (g : Goes value (made_by k) NoLetter t (numbered k 0 w.payload) w.first w.second w.edit) (p : Position)
    → shifted (map value t) w.edit w.payload w.first p ≡ to (g.by p)
goes_to k t w g p = subst (λ (x : List ℕ). shifted (map value t) w.edit x w.first p ≡ to (g.by p)) (numbered-value k 0 w.payload) (g.is p)

-- what K says of where a letter stood at first and of where it stands
unfoldable pub Known : (Position → Position → Type 0) → Position → Traced → Type 0
Known K q c = (p : Position) → c.origin ≡ opening p → lf_at c ≡ false → K p q

pub no_letter : (K : Position → Position → Type 0) (q : Position) (c : Traced) → NoLetter c → Known K q c
unfolding Known
no_letter K q c h p o n = ⊎_elim (λ e. absurd (clash e n)) (λ f. absurd (f p o)) h

pub opened-known : (K : Position → Position → Type 0) → ((p : Position) → K p p) → (o : Position) (t : List ℕ) → Holds lf_at (Known K) o (opened_at o t)
unfolding opened_at Holds Known
opened-known K h o [] = tt
opened-known K h o (x ∷ t) = (
  λ p e n. let q : o ≡ p = cc in subst (λ (z : Position). K z o) q (h o),
  subst (λ (q : Position). Holds lf_at (Known K) q (opened_at (o ⊕ end_of is_lf (x ∷ [])) t)) (ap (λ (q : Position). o ⊕ q) (map-end value lf_at is_lf (λ c. refl) (traced x (opening o) ∷ [])))
      (opened-known K h (o ⊕ end_of is_lf (x ∷ [])) t),
)

-- one edit: from K to whatever K and the shift give
pub step-known : (k : ℕ) (t : List Traced) (w : Whole ℕ) → KeepsWhole (map value t) w → (K M : Position → Position → Type 0)
    → ((p q m : Position) → K p q → shifted (map value t) w.edit w.payload w.first q ≡ to m → M p m)
    → Holds lf_at (Known K) (at 0 0) t → Holds lf_at (Known M) (at 0 0) (traced_by k w t).text
unfolding Known
step-known k t w h K M f e =
    let g = goes_traced k t w h in
    g.carries.letters (Known K) (Known M) (λ q c n r p o m. f p q (g.by q) (r p o m) (goes_to k t w g q)) (λ q c. no_letter M q c) e

run-known : (k : ℕ) (t : List Traced) (ws : List (Whole ℕ)) → KeepsRun (map value t) ws → (s : Position → Followed Position)
    → Holds lf_at (Known (λ p q. s p ≡ to q)) (at 0 0) t → Holds lf_at (Known (λ p q. shifted_over (map value t) ws (s p) ≡ to q)) (at 0 0) (traced_run k t ws)
unfolding KeepsRun shifted_over traced_run
run-known k t [] h s e = e
run-known k t (w ∷ ws) h s e =
    let u : map value (traced_by k w t).text ≡ edited_text w (map value t) = traced-value k w t in
    subst (λ (l : List ℕ). Holds lf_at (Known (λ p q. shifted_over l ws (then_shifted (map value t) w (s p)) ≡ to q)) (at 0 0) (traced_run (suc k) (traced_by k w t).text ws)) u
    (run-known (suc k) (traced_by k w t).text ws (subst (λ (l : List ℕ). KeepsRun l ws) (sym u) h.1) (λ p. then_shifted (map value t) w (s p))
    (step-known k t w h.0 (λ p q. s p ≡ to q) (λ p q. then_shifted (map value t) w (s p) ≡ to q) (λ p q m r i. ap (then_shifted (map value t) w) r ∙ i) e))

pub letters_stay_run : LettersStayRun
unfolding Known
letters_stay_run t ws h before behind c p l =
    let v : map value (opened t) ≡ t = opened-value (at 0 0) t in
    let k = run-known 0 (opened t) ws (rw v h) to (opened-known (λ p q. to p ≡ to q) (λ p. refl) (at 0 0) t) in
    let i : shifted_over (map value (opened t)) ws (to p) ≡ to (at 0 0 ⊕ end_of lf_at before) =
    holds_one lf_at (Known (λ p q. shifted_over (map value (opened t)) ws (to p) ≡ to q)) (at 0 0) before c behind (rw l.stands at k) p l.from l.other in
    subst (λ (u : List ℕ). shifted_over u ws (to p) ≡ to (end_of lf_at before)) v (i ∙ ap to (add-origin (end_of lf_at before)))

-- ---- marks

goes_plain : (t : List ℕ) (w : Whole ℕ) → KeepsWhole t w → Goes (λ (x : ℕ). x) spaces (λ (x : ℕ). Unit {0}) t w.payload w.first w.second w.edit
goes_plain t w h =
    goes (λ (x : ℕ). x) spaces (λ x e. tt) tt tt tt tt t w.payload w.first w.second (λ u x r i. tt) w.edit
    (subst (λ (l : List ℕ). Keeps l w.edit w.first w.second) (sym (map-id t)) h.0) (subst (λ (l : List ℕ). payload_ok w.edit l w.first ≡ true) (sym (map-id w.payload)) h.1)

pub marks_meet : MarksMeet
marks_meet t w h p q mp mq u =
    let g = goes_plain t w h in
    record {
      p' = g.by p;
      q' = g.by q;
      lands_p = lands g p;
      lands_q = lands g q;
      order = g.carries.order p q mp u;
      kept_p = g.carries.marks p mp;
      kept_q = g.carries.marks q mq;
    }
  where
    lands : (g : Goes (λ (x : ℕ). x) spaces (λ (x : ℕ). Unit {0}) t w.payload w.first w.second w.edit) (p : Position) → shifted t w.edit w.payload w.first p ≡ to (g.by p)
    lands g p =
        subst (λ (l : List ℕ). shifted l w.edit w.payload w.first p ≡ to (g.by p)) (map-id t)
        (subst (λ (x : List ℕ). shifted (map (λ y. y) t) w.edit x w.first p ≡ to (g.by p)) (map-id w.payload) (g.is p))

run-meets : (t : List ℕ) (ws : List (Whole ℕ)) → KeepsRun t ws → (p q : Position) → Markable t p → Markable t q → upto p q ≡ true → LandedRun t ws p q
unfolding KeepsRun shifted_over
run-meets t [] h p q mp mq u = record { p' = p; q' = q; lands_p = refl; lands_q = refl; order = u }
run-meets t (w ∷ ws) h p q mp mq u =
    let l = marks_meet t w h.0 p q mp mq u in
    let r = run-meets (edited_text w t) ws h.1 l.p' l.q' l.kept_p l.kept_q l.order in
    record {
      p' = r.p';
      q' = r.q';
      lands_p = ap (shifted_over (edited_text w t) ws) l.lands_p ∙ r.lands_p;
      lands_q = ap (shifted_over (edited_text w t) ws) l.lands_q ∙ r.lands_q;
      order = r.order;
    }

pub marks_meet_run : MarksMeetRun
marks_meet_run t ws h p q mp mq u = run-meets t ws h p q (inl mp) (inl mq) u
