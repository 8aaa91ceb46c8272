-- What follows for an edit that is resolved: its text and what it cuts are those of its steps, and their sums are its plan.
use mathlib.Core.Path.{◌≡◌, sym, ap, ◌∙◌}
use mathlib.Core.List.{List}
use Prim.Native.Nat.{ℕ, ◌≤◌}
use native.Mathlib.Omega.{arith}
use lib.ListN.{length}
use Rattle.edit.specs.declared.Edit.{Edit}
use Rattle.edit.specs.Edits.{Edited, edited_by}
use Rattle.edit.specs.Refusals.{is_space, spaces}
use Rattle.edit.specs.Call.{plan_of}
use Rattle.text.specs.Text.{is_lf}
use Rattle.steps.specs.declared.Resolved.{Resolved}
use Rattle.steps.specs.Steps.{Step, woven, cut_of, passed}
use Rattle.steps.specs.Numbers.{steps_of, passed_by, cut_by, size_by}
use Rattle.steps.specs.Resolves.{Resolves}
use Rattle.steps.proofs.Texts.{steps_text}
use Rattle.steps.proofs.Cuts.{steps_cut}
use Rattle.steps.proofs.Passes.{steps_passed}
use Rattle.steps.proofs.Sums.{passed-of, laid_of, cut_of_lem, woven-length}

module _ (r : Resolved) (l : List ℕ) (e : Edit) (x f s t : List ℕ) (R : Resolves r l e x f s t) where
  abbrev d : Edited ℕ
  d = edited_by is_lf is_space spaces e x f s t

  abbrev ss : List (Step ℕ)
  ss = steps_of r.steps l x

  pub planned_passed : passed_by r.steps l ≤ length t
  planned_passed = omega (arith, steps_passed is_lf is_space spaces e x f s t, ap passed R.steps, passed-of r.steps l x)

  pub planned_text : woven r.made ss t ≡ d.text
  planned_text = rw (R.made, R.steps) (sym (steps_text is_lf is_space spaces e x f s t))

  pub planned_cut : cut_of ss t ≡ d.inverse.payload
  planned_cut = rw R.steps (steps_cut is_lf is_space spaces e x f s t)

  planned_size : length d.text ≡ size_by r.steps l 0 (length t)
  planned_size =
      let p = passed-of r.steps l x in
      let q = laid_of r.steps l x R.come in
      let h = planned_passed in
      let w = woven-length r.made ss t (omega arith) in
      sym (ap length planned_text) ∙ omega arith

  pub planned : plan_of d ≡ record { used = size_by r.steps l 0 (length t); payload = cut_by r.steps l; first = r.first; second = r.second }
  planned =
      let c : length d.inverse.payload ≡ cut_by r.steps l = sym (ap length planned_cut) ∙ cut_of_lem r.steps l x t planned_passed in
      rw (planned_size, c, ← R.first, ← R.second)
