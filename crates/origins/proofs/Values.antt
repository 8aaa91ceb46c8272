-- Characters without their origins.
use mathlib.Core.Path.{◌≡◌, refl, sym, ◌∙◌, ap}
use mathlib.Core.List.{List, [], ◌∷◌, map}
use Prim.Native.Nat.{ℕ, suc}
use Rattle.text.specs.declared.Position.{Position}
use Rattle.text.specs.Rows.{◌⊕◌, end_of}
use Rattle.text.specs.Text.{is_lf}
use Rattle.edit.specs.Edits.{Whole, Edited, edited_by}
use Rattle.edit.specs.Refusals.{is_space, spaces}
use Rattle.edit.proofs.Natural.{natural}
use Rattle.origins.specs.Origins.{Traced, value, lf_at, space_at, opened_at, numbered, made_by, traced_by, traced_run}
use Rattle.origins.specs.Theorems.{edited_text, text_run}

pub opened-value : (p : Position) (t : List ℕ) → map value (opened_at p t) ≡ t
unfolding opened_at
opened-value p [] = refl
opened-value p (x ∷ t) = ap (◌∷◌ x) (opened-value (p ⊕ end_of is_lf (x ∷ [])) t)

pub numbered-value : (k i : ℕ) (x : List ℕ) → map value (numbered k i x) ≡ x
unfolding numbered
numbered-value k i [] = refl
numbered-value k i (y ∷ x) = ap (◌∷◌ y) (numbered-value k (suc i) x)

pub traced-value : (k : ℕ) (w : Whole ℕ) (t : List Traced) → map value (traced_by k w t).text ≡ edited_text w (map value t)
traced-value k w t =
    sym (ap (λ (d : Edited ℕ). d.text) (natural Traced ℕ value lf_at space_at is_lf is_space (λ c. refl) (λ c. refl) (made_by k) w.edit (numbered k 0 w.payload) w.first w.second t))
    ∙ ap (λ (x : List ℕ). (edited_by is_lf is_space spaces w.edit x w.first w.second (map value t)).text) (numbered-value k 0 w.payload)

pub run_value : (k : ℕ) (t : List Traced) (ws : List (Whole ℕ)) → map value (traced_run k t ws) ≡ text_run (map value t) ws
unfolding traced_run text_run
run_value k t [] = refl
run_value k t (w ∷ ws) = run_value (suc k) (traced_by k w t).text ws ∙ ap (λ (u : List ℕ). text_run u ws) (traced-value k w t)
