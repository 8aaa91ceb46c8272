-- What is written to the front of a lent slice, part by part.
use mathlib.Core.Path.{◌≡◌}
use mathlib.Core.List.{List, ◌++◌}
use Prim.Native.Nat.{ℕ}
use native.Mathlib.Nat.{zero-add}
use lib.ListN.{length, replicate, length-replicate}
use lib.Seq.{paste, take-length}
use Rattle.promise.specs.Slices.{over}
use Rattle.promise.proofs.Lists.{paste-behind}

-- a copy to the front
pub paste-over : (w x : List ℕ) → paste w 0 x (length x) ≡ over x w
paste-over w x = rw (take-length, zero-add)

-- so many zeros more
pub zeros_behind : (p w : List ℕ) (m k : ℕ) → length p ≡ m → paste (over p w) m (replicate k 0) k ≡ over (p ++ replicate k 0) w
zeros_behind p w m k e = paste-behind p (replicate k 0) w m k e (length-replicate {A = ℕ} k 0)
