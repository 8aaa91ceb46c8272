-- Where a position lands after an insertion: ways out of `after_insert`.
use mathlib.Core.Path.{◌≡◌}
use mathlib.Core.Bool.{true, false}
use mathlib.Core.List.{List}
use Prim.Native.Nat.{ℕ, ◌+◌}
use borrow.Author.Tests.{eq-eqb}
use lib.ListN.{length}
use Rattle.text.specs.declared.Position.{Position}
use Rattle.text.specs.Rows.{at, upto, last_row}
use Rattle.text.specs.Text.{is_lf}
use Rattle.after.specs.After.{after_insert}

module _ (p q : Position) (x : List ℕ) where
  pub insert-before : upto q p ≡ false → p ≡ after_insert p q x
  unfolding after_insert
  insert-before u = rw u

  module _ (u : upto q p ≡ true) (l : ℕ) (added : l ≡ last_row is_lf x) where
    pub insert-in_row : p.row.0 ≡ q.row.0 → l ≡ 0 → at p.row.0 (p.col.0 + length x) ≡ after_insert p q x
    unfolding after_insert
    insert-in_row r z = rw (u, eq-eqb _ _ r, ← added, eq-eqb _ _ z)
