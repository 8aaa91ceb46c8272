-- A character that has its place in the opening text stood there.
use mathlib.Core.Path.{◌≡◌, refl, subst}
use mathlib.Core.List.{List, [], ◌∷◌, ◌++◌}
use Prim.Native.Nat.{ℕ, suc}
use lib.Seq.{append_snoc}
use Rattle.promise.proofs.Lists.{Every}
use Rattle.text.specs.declared.Position.{Position}
use Rattle.text.specs.Rows.{end_of}
use Rattle.text.specs.Text.{is_lf}
use Rattle.text.proofs.Laws.{end-append, end_none}
use Rattle.edit.specs.Edits.{Whole}
use Rattle.edit.proofs.Natural.{every_edited}
use Rattle.origins.specs.Origins.{opening, Traced, lf_at, space_at, opened_at, opened, numbered, made_by, traced_by, traced_run}
use Rattle.origins.specs.Theorems.{StandsAt}
use Rattle.origins.proofs.Fresh.{no_padding, no_space, no_break, no_item}

-- what each character is to have
Stood : List ℕ → Traced → Type 0
Stood t c = (p : Position) → c.origin ≡ opening p → StandsAt t c.value p

opened-stood : (s t : List ℕ) → Every (Stood (s ++ t)) (opened_at (end_of is_lf s) t)
unfolding Every Stood opened_at
opened-stood s [] = tt
opened-stood s (x ∷ t) = (
  λ p e. record { before = s; behind = t; text = refl; place = cc },
  subst (λ (q : Position). Every (Stood (s ++ x ∷ t)) (opened_at q t)) (end-append is_lf s (x ∷ []))
      (subst (λ (l : List ℕ). Every (Stood l) (opened_at (end_of is_lf (s ++ (x ∷ []))) t)) (append_snoc s x t) (opened-stood (s ++ (x ∷ [])) t)),
)

numbered-stood : (t : List ℕ) (k i : ℕ) (x : List ℕ) → Every (Stood t) (numbered k i x)
unfolding Every Stood numbered
numbered-stood t k i [] = tt
numbered-stood t k i (y ∷ x) = (λ p e. absurd (no_item k i p e), numbered-stood t k (suc i) x)

run-stood : (t : List ℕ) (k : ℕ) (u : List Traced) (ws : List (Whole ℕ)) → Every (Stood t) u → Every (Stood t) (traced_run k u ws)
unfolding Stood traced_run
run-stood t k u [] h = h
run-stood t k u (w ∷ ws) h =
    run-stood t (suc k) (traced_by k w u).text ws
    (every_edited (Stood t) lf_at space_at (made_by k) (λ p e. absurd (no_padding k p e)) (λ p e. absurd (no_space k p e)) (λ p e. absurd (no_break k p e)) w.edit (numbered k 0 w.payload) w.first w.second u
    (numbered-stood t k 0 w.payload) h)

pub all-stood : (t : List ℕ) (ws : List (Whole ℕ)) → Every (λ c. (p : Position) → c.origin ≡ opening p → StandsAt t c.value p) (traced_run 0 (opened t) ws)
unfolding Stood
all-stood t ws = run-stood t 0 (opened t) ws (subst (λ (q : Position). Every (Stood t) (opened_at q t)) (end_none is_lf) (opened-stood [] t))
