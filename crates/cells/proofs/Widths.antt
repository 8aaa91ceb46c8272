-- Widths and the first character outside.
use mathlib.Core.Path.{◌≡◌, refl, ◌∙◌}
use mathlib.Core.Bool.{Bool, true, false, cond, not, ◌||◌}
use mathlib.Core.List.{List, [], ◌∷◌}
use Rattle.std.specs.Prelude.{Option, None, Some}
use Prim.Native.Nat.{ℕ, suc, ◌+◌, ◌*◌, ◌/◌, ◌%◌, max, ◌≤◌, ◌<◌}
use native.Mathlib.Nat.{div-add-mod', mod-lt, add-mul, zero-add}
use native.Mathlib.Omega.{arith}
use borrow.Author.Tests.{ltb-true, ltb-false, le-ltb, not-true}
use lib.Dec.{eqb, ltb}
use lib.ListN.{length, take}
use Rattle.promise.proofs.Bools.{both, neither}
use Rattle.text.specs.Text.{all}
use Rattle.cells.specs.Wide.{is_wide}
use Rattle.cells.specs.Cells.{tab_stop, cell_after, width_from, first_outside_from}
use Rattle.cells.specs.Theorems.{LeavesByWidth, AsWideAsLong}

stop_after : (tab cell : ℕ) → cell < tab_stop tab cell
unfolding tab_stop
stop_after tab cell =
    let m : ℕ = max tab 1 in
    let p : 0 < m = omega arith in
    let d : cell / m * m + cell % m ≡ cell = div-add-mod' cell m in
    let l : cell % m < m = mod-lt cell p in
    let e : (cell / m + 1) * m ≡ cell / m * m + 1 * m = add-mul (cell / m) 1 m in
    rw e (omega arith)

-- every character has a cell
pub after_more : (tab cell x : ℕ) → cell < cell_after tab cell x
unfolding cell_after
after_more tab cell x = go (eqb x 9) (is_wide x)
  where
    go : (a b : Bool) → cell < cond a (tab_stop tab cell) (cell + cond b 2 1)
    go true b = stop_after tab cell
    go false true = omega arith
    go false false = omega arith

width-more : (tab : ℕ) (row : List ℕ) (cell : ℕ) → cell ≤ width_from tab cell row
unfolding width_from
width-more tab [] cell = omega arith
width-more tab (x ∷ s) cell = let a = after_more tab cell x in let b = width-more tab s (cell_after tab cell x) in omega arith

nothing : {c : ℕ} → ◌≡◌ {A = Option ℕ} (Some c) None → ⊥
nothing e = let z : ◌≡◌ {A = ℕ} 0 1 = cc in omega arith

module _ (cells tab : ℕ) where
  fits : (row : List ℕ) (cell col : ℕ) → width_from tab cell row ≤ cells → first_outside_from cells tab cell col row ≡ None
  unfolding width_from first_outside_from
  fits [] cell col h = refl
  fits (x ∷ s) cell col h =
      let a : cell_after tab cell x ≤ cells = let b = width-more tab s (cell_after tab cell x) in omega arith in
      rw (le-ltb cells (cell_after tab cell x) a) (fits s (cell_after tab cell x) (suc col) h)

  fitted : (row : List ℕ) (cell col : ℕ) → cell ≤ cells → first_outside_from cells tab cell col row ≡ None → width_from tab cell row ≤ cells
  unfolding width_from first_outside_from
  fitted [] cell col h e = h
  fitted (x ∷ s) cell col h e = go (ltb cells (cell_after tab cell x)) refl e (λ k q. fitted s (cell_after tab cell x) (suc col) k q)
    where
      go : (b : Bool) → ltb cells (cell_after tab cell x) ≡ b → cond b (Some col) (first_outside_from cells tab (cell_after tab cell x) (suc col) s) ≡ None
          → (cell_after tab cell x ≤ cells → first_outside_from cells tab (cell_after tab cell x) (suc col) s ≡ None → width_from tab (cell_after tab cell x) s ≤ cells)
          → width_from tab (cell_after tab cell x) s ≤ cells
      go true q e i = absurd (nothing e)
      go false q e i = i (ltb-false _ _ q) e

  first : (row : List ℕ) (cell col c : ℕ) → cell ≤ cells → first_outside_from cells tab cell col row ≡ Some c
      → (k : ℕ) × (c ≡ col + k) × (k < length row) × (width_from tab cell (take k row) ≤ cells) × (cells < width_from tab cell (take (suc k) row))
  unfolding width_from first_outside_from
  first [] cell col c h e = let z : ◌≡◌ {A = ℕ} 0 1 = cc in absurd (omega arith)
  first (x ∷ s) cell col c h e = go (ltb cells (cell_after tab cell x)) refl e (λ k q. first s (cell_after tab cell x) (suc col) c k q)
    where
      go : (b : Bool) → ltb cells (cell_after tab cell x) ≡ b → cond b (Some col) (first_outside_from cells tab (cell_after tab cell x) (suc col) s) ≡ Some c
          → (cell_after tab cell x ≤ cells → first_outside_from cells tab (cell_after tab cell x) (suc col) s ≡ Some c
          → (k : ℕ) × (c ≡ suc col + k) × (k < length s) × (width_from tab (cell_after tab cell x) (take k s) ≤ cells) × (cells < width_from tab (cell_after tab cell x) (take (suc k) s)))
          → (k : ℕ) × (c ≡ col + k) × (k < suc (length s)) × (width_from tab cell (take k (x ∷ s)) ≤ cells) × (cells < width_from tab cell (take (suc k) (x ∷ s)))
      go true q e i = let w : col ≡ c = cc in (0, omega arith, omega arith, h, ltb-true _ _ q)
      go false q e i = let w = i (ltb-false _ _ q) e in let a = w.1 in let b = w.2 in (suc w.0, omega arith, omega arith, w.3, w.4)

pub leaves-by_width : LeavesByWidth
leaves-by_width = record {
  fits = λ cells tab row h. fits cells tab row 0 0 h;
  fitted = λ cells tab row e. fitted cells tab row 0 0 (omega arith) e;
  first = λ cells tab c row e. let w = first cells tab row 0 0 c (omega arith) e in let q : c ≡ w.0 = w.1 ∙ zero-add w.0 in rw q (w.2, w.3, w.4);
}

long : (tab : ℕ) (row : List ℕ) (cell : ℕ) → all (λ x. not (eqb x 9 || is_wide x)) row ≡ true → width_from tab cell row ≡ cell + length row
unfolding width_from cell_after all
long tab [] cell e = omega arith
long tab (x ∷ s) cell e =
    let b = both (not (eqb x 9 || is_wide x)) (all (λ y. not (eqb y 9 || is_wide y)) s) e in
    let n = neither (eqb x 9) (is_wide x) (not-true _ b.0) in
    rw (n.0, n.1) (long tab s (cell + 1) b.1 ∙ omega arith)

pub as_wide-as_long : AsWideAsLong
as_wide-as_long tab row e = long tab row 0 e ∙ zero-add (length row)
