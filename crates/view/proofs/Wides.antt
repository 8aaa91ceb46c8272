-- Rows as the parts that a cut at each LF gives.
use Rattle.std.proofs.Common.{◌≡◌, ℕ, Bool, true, false, cond, List, [], ◌∷◌, map, take, length, leb, refl, ap, sym, ◌∙◌}
use native.Mathlib.Omega.{arith}
use borrow.Author.Tests.{le-leb}
use Rattle.std.specs.List.{slice_split, onto_first, list_all}
use Rattle.std.proofs.lemmas.List.{take-map}
use Rattle.text.specs.Rows.{Line, line, lines, onto}
use Rattle.text.specs.Text.{is_lf}
use Rattle.edit.specs.Refusals.{wide}

onto-first : (x : ℕ) (rs : List (Line ℕ)) → map (λ (r : Line ℕ). r.body) (onto x rs) ≡ onto_first x (map (λ (r : Line ℕ). r.body) rs)
unfolding onto
onto-first x [] = refl
onto-first x (r ∷ rs) = refl

parts : (t : List ℕ) → map (λ (r : Line ℕ). r.body) (lines is_lf t) ≡ slice_split is_lf t
unfolding lines
parts [] = refl
parts (x ∷ t) = go (is_lf x) (parts t)
  where
    go : (b : Bool) → map (λ (r : Line ℕ). r.body) (lines is_lf t) ≡ slice_split is_lf t
        → map (λ (r : Line ℕ). r.body) (cond b (line [] (x ∷ []) ∷ lines is_lf t) (onto x (lines is_lf t))) ≡ cond b ([] ∷ slice_split is_lf t) (onto_first x (slice_split is_lf t))
    go true e = ap (λ (l : List (List ℕ)). [] ∷ l) e
    go false e = onto-first x (lines is_lf t) ∙ ap (onto_first x) e

all_bodies : (c : ℕ) (rs : List (Line ℕ)) → list_all (λ (s : List ℕ). leb c (length s)) (map (λ (r : Line ℕ). r.body) rs) ≡ wide c rs
unfolding wide
all_bodies c [] = refl
all_bodies c (r ∷ rs) = rw (all_bodies c rs)

pub wide_parts : (c n : ℕ) (t : List ℕ) → list_all (λ (s : List ℕ). leb c (length s)) (take n (slice_split is_lf t)) ≡ wide c (take n (lines is_lf t))
wide_parts c n t =
    ap (λ (l : List (List ℕ)). list_all (λ (s : List ℕ). leb c (length s)) (take n l)) (sym (parts t))
    ∙ ap (list_all (λ (s : List ℕ). leb c (length s))) (take-map (λ (r : Line ℕ). r.body) n (lines is_lf t))
    ∙ all_bodies c (take n (lines is_lf t))

-- no row is shorter than nothing
pub wide-zero : (rs : List (Line ℕ)) → true ≡ wide 0 rs
unfolding wide
wide-zero [] = refl
wide-zero (r ∷ rs) = wide-zero rs ∙ rw (le-leb 0 (length r.body) (omega arith))
