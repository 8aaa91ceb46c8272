-- The theorems that specs/Theorems.antt states.
use mathlib.Core.Bool.{true, cond, ◌&&◌}
use mathlib.Core.List.{List, [], ◌∷◌}
use Rattle.std.specs.Prelude.{Option, None, Some}
use mathlib.Core.Path.{◌≡◌, refl}
use Prim.Native.Nat.{ℕ, suc}
use native.Mathlib.Omega.{arith}
use borrow.Author.Tests.{le-leb, leb-true}
use lib.Dec.{eqb, leb}
use Rattle.promise.specs.Paper.{Paper, done, refused}
use Rattle.promise.proofs.Bools.{both, both_true}
use Rattle.promise.proofs.Settled.{settled}
use Rattle.text.specs.Rows.{Line}
use Rattle.text.specs.Text.{all}
use Rattle.cells.specs.Cells.{width, first_outside}
use Rattle.cells.proofs.Widths.{leaves-by_width}
use Rattle.fit.specs.Calls.{Fit, all_fit, leaves, paper_box_fit, row_or, first_over}
use Rattle.fit.specs.Theorems.{BoxFitSettled, row_widths, FitsByWidth}
use Rattle.std.specs.Prelude.{Result, Ok, Err, Some, None}
use Rattle.text.specs.declared.Position.{Position}
use Rattle.fit.specs.declared.BoxError.{BoxError}
use Rattle.fit.specs.declared.BoxError.TheVariants as box_error

fit_back : Paper Fit → Result (Option Position) BoxError
fit_back (done all_fit) = Ok None
fit_back (done (leaves p)) = Ok (Some p)
fit_back (refused n k) = cond (eqb n 2) (Err box_error.TooBig) (Err box_error.BadText)

fit_back_lem : (x : Result (Option Position) BoxError) → fit_back (paper_box_fit x) ≡ x
unfolding fit_back
fit_back_lem (Ok None) = refl
fit_back_lem (Ok (Some p)) = refl
fit_back_lem (Err box_error.BadText) = refl
fit_back_lem (Err box_error.TooBig) = refl

pub box_fit_settled : BoxFitSettled
box_fit_settled = settled fit_back fit_back_lem

module _ (cells tab : ℕ) where
  fits : (r : ℕ) (ls : List (Line ℕ)) → all (λ w. leb w cells) (row_widths tab ls) ≡ true → first_over cells tab r ls ≡ all_fit
  unfolding all first_over row_or
  fits r [] e = refl
  fits r (l ∷ ls) e =
      let b = both (leb (width tab l.body) cells) (all (λ w. leb w cells) (row_widths tab ls)) e in
      rw (leaves-by_width.fits cells tab l.body (leb-true (width tab l.body) cells b.0)) (fits (suc r) ls b.1)

  fitted : (r : ℕ) (ls : List (Line ℕ)) → first_over cells tab r ls ≡ all_fit → all (λ w. leb w cells) (row_widths tab ls) ≡ true
  unfolding all first_over row_or
  fitted r [] e = refl
  fitted r (l ∷ ls) e = go (first_outside cells tab l.body) refl e (λ h. fitted (suc r) ls h)
    where
      go : (o : Option ℕ) → first_outside cells tab l.body ≡ o → row_or r o (first_over cells tab (suc r) ls) ≡ all_fit → (first_over cells tab (suc r) ls ≡ all_fit → all (λ w. leb w cells) (row_widths tab ls) ≡ true)
          → (leb (width tab l.body) cells && all (λ w. leb w cells) (row_widths tab ls)) ≡ true
      go None q h i = both_true (le-leb (width tab l.body) cells (leaves-by_width.fitted cells tab l.body q)) (i h)
      go (Some c) q h i = let z : ◌≡◌ {A = ℕ} 0 1 = cc in absurd (omega arith)

pub fits_by_width : FitsByWidth
fits_by_width = record { fits = fits; fitted = fitted }
