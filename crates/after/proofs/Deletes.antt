-- Where a position lands after a Char or a Line delete: ways out of the two functions.
use mathlib.Core.Path.{◌≡◌}
use mathlib.Core.Bool.{true, false}
use Prim.Native.Nat.{ℕ, ◌+◌, ◌-◌, ◌≤◌, ◌<◌}
use borrow.Author.Tests.{eq-eqb, ne_eqb, le-leb, lt-ltb, le-ltb}
use Rattle.text.specs.declared.Position.{Position}
use Rattle.text.specs.Rows.{at, upto}
use Rattle.after.specs.After.{after_delete_char, after_delete_lines}

module _ (p s e : Position) where
  pub delete_before : upto p s ≡ true → p ≡ after_delete_char p s e
  unfolding after_delete_char
  delete_before u = rw u

  module _ (u : upto p s ≡ false) where
    pub delete_inside : upto e p ≡ false → s ≡ after_delete_char p s e
    unfolding after_delete_char
    delete_inside v = rw (u, v)

    pub delete_in_row : upto e p ≡ true → p.row.0 ≡ e.row.0 → at s.row.0 (s.col.0 + (p.col.0 - e.col.0)) ≡ after_delete_char p s e
    unfolding after_delete_char
    delete_in_row v r = rw (u, v, eq-eqb _ _ r)

    pub delete_below : upto e p ≡ true → (p.row.0 ≡ e.row.0 → ⊥) → at (p.row.0 - (e.row.0 - s.row.0)) p.col.0 ≡ after_delete_char p s e
    unfolding after_delete_char
    delete_below v r = rw (u, v, ne_eqb _ _ r)

module _ (p : Position) (s e : ℕ) where
  pub lines-above : p.row.0 < s → p ≡ after_delete_lines p s e
  unfolding after_delete_lines
  lines-above h = rw (lt-ltb _ _ h)

  pub lines-inside : s ≤ p.row.0 → p.row.0 ≤ e → at s 0 ≡ after_delete_lines p s e
  unfolding after_delete_lines
  lines-inside h k = rw (le-ltb _ _ h, le-leb _ _ k)
