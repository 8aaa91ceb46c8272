-- Laws of tab stops and of a character's cells.
use mathlib.Core.Path.{◌≡◌, sym, ap, ◌∙◌}
use mathlib.Core.Bool.{true, false}
use mathlib.Core.List.{List}
use Prim.Native.Nat.{ℕ, ◌+◌, ◌-◌, ◌*◌, ◌/◌, ◌%◌, ◌≤◌, ◌<◌}
use native.Mathlib.Nat.{div-add-mod', max-eq_left, add-mul}
use native.Mathlib.Omega.{arith}
use borrow.Author.Tests.{eq-eqb, ne_eqb, lt-ltb, le-ltb}
use Rattle.cells.specs.Wide.{ranges, edges, is_wide, count_up_to, odd}
use Rattle.cells.specs.Cells.{tab_stop, cell_after, near_after}
use Rattle.cells.proofs.Tables.{none_upto, search_agrees, table_ascends}

pub stop_zero : (cell : ℕ) → cell + 1 ≡ tab_stop 0 cell
unfolding tab_stop
stop_zero cell = omega arith

pub stop_tab : (tab cell : ℕ) → (tab ≡ 0 → ⊥) → cell - cell % tab + tab ≡ tab_stop tab cell
unfolding tab_stop
stop_tab tab cell h =
    let p : 1 ≤ tab = omega arith in
    let d : cell / tab * tab + cell % tab ≡ cell = div-add-mod' cell tab in
    rw (max-eq_left p, add-mul (cell / tab) 1 tab) (omega arith)

pub narrow : (x : ℕ) → x < 0x1100 → is_wide x ≡ false
unfolding is_wide edges
narrow x h = sym (search_agrees ranges x table_ascends) ∙ ap odd (none_upto x 0x1100 _ table_ascends h)

-- the plain reading, by a count in the table
module _ (t : List ℕ) (v n : ℕ) (h : t ≡ edges ranges) (e : n ≡ count_up_to v t) where
  by_count : is_wide v ≡ odd n
  unfolding is_wide
  by_count = sym (ap odd (e ∙ ap (count_up_to v) h) ∙ search_agrees ranges v table_ascends)

  pub wide-count : n % 2 ≡ 1 → is_wide v ≡ true
  wide-count q = by_count ∙ eq-eqb (n % 2) 1 q

  pub narrow_count : (n % 2 ≡ 1 → ⊥) → is_wide v ≡ false
  narrow_count q = by_count ∙ ne_eqb (n % 2) 1 q

module _ (tab cell x : ℕ) where
  pub after-tab : x ≡ 9 → cell_after tab cell x ≡ tab_stop tab cell
  unfolding cell_after
  after-tab e = rw (eq-eqb x 9 e)

  pub after-wide : (x ≡ 9 → ⊥) → is_wide x ≡ true → cell_after tab cell x ≡ cell + 2
  unfolding cell_after
  after-wide e w = rw (ne_eqb x 9 e, w)

  pub after-narrow : (x ≡ 9 → ⊥) → is_wide x ≡ false → cell_after tab cell x ≡ cell + 1
  unfolding cell_after
  after-narrow e w = rw (ne_eqb x 9 e, w)

module _ (near x : ℕ) where
  pub near_kept : x < 0x1100 → near ≡ near_after near x
  unfolding near_after
  near_kept h = rw (lt-ltb x 0x1100 h)

  pub near_counted : (t : List ℕ) (n : ℕ) → t ≡ edges ranges → n ≡ count_up_to x t → 0x1100 ≤ x → n ≡ near_after near x
  unfolding near_after
  near_counted t n h e l = rw (le-ltb x 0x1100 l) (e ∙ ap (count_up_to x) h)
