-- The LFs of a text whose steps are taken.
use mathlib.Core.Path.{◌≡◌, refl, sym, ap, ◌∙◌}
use mathlib.Core.Bool.{Bool}
use mathlib.Core.List.{List, [], ◌∷◌, ◌++◌}
use Prim.Native.Nat.{ℕ, ◌+◌}
use native.Mathlib.Omega.{arith}
use lib.ListN.{take, drop, take-append-drop}
use lib.Seq.{drop-drop}
use Rattle.text.specs.Rows.{last_row}
use Rattle.text.proofs.Laws.{last_append}
use Rattle.steps.specs.Steps.{Step, brought, woven, breaks_gone, breaks_come}

module _ {A : Type 0} (lf : A → Bool) where
  last_split : (n : ℕ) (t : List A) → last_row lf t ≡ last_row lf (take n t) + last_row lf (drop n t)
  last_split n t = ap (last_row lf) (sym (take-append-drop n t)) ∙ last_append lf (take n t) (drop n t)

  pub rows-woven : (v : A) (ss : List (Step A)) (t : List A) → last_row lf (woven v ss t) + breaks_gone lf ss t ≡ last_row lf t + breaks_come lf v ss
  unfolding woven breaks_gone breaks_come
  rows-woven v [] t = refl
  rows-woven v (s ∷ ss) t =
      let u : List A = drop s.keep t in
      let r : List A = drop (s.keep + s.gone) t in
      let W : List A = woven v ss r in
      let e : last_row lf (drop s.gone u) ≡ last_row lf r = ap (last_row lf) (drop-drop s.gone s.keep t) in
      omega (arith, e, rows-woven v ss r, last_append lf (take s.keep t) (brought v s ++ W), last_append lf (brought v s) W, last_split s.keep t, last_split s.gone u)
