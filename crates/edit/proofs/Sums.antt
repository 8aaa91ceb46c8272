-- The sum of a list, at index i of a scan forwards.
use mathlib.Core.Path.{◌≡◌}
use mathlib.Core.List.{List}
use Prim.Native.Nat.{ℕ, ◌+◌, ◌≤◌, ◌<◌}
use lib.ListN.{length, drop, get_or, drop_of_length-le}
use Rattle.promise.proofs.Lists.{next}
use Rattle.edit.specs.Refusals.{sum}

module _ (s : List ℕ) (i : ℕ) where
  pub sum-at : i < length s → sum (drop i s) ≡ get_or s i 0 + sum (drop (i + 1) s)
  unfolding sum
  sum-at h = rw (next s i h)

  pub sum-at-end : length s ≤ i → sum (drop i s) ≡ 0
  unfolding sum
  sum-at-end h = rw (drop_of_length-le s h)
