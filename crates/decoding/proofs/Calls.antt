-- The whole call: what was counted decides it.
use mathlib.Core.Path.{◌≡◌, ap}
use mathlib.Core.List.{List}
use Prim.Native.Nat.{ℕ, ◌≤◌, ◌<◌}
use native.Mathlib.Omega.{arith}
use lib.ListN.{length}
use Rattle.promise.specs.Paper.{done, refused}
use Rattle.promise.specs.Slices.{over}
use Rattle.utf8.specs.Reading.{Reading, scalars, bad_at}
use Rattle.utf8.specs.Calls.{outcome, stored, counted, decoded, scalars_of, Fillable}
use Rattle.utf8.proofs.Stores.{stored-not, stored-all}
use Rattle.utf8.proofs.Readings.{counted-done}

pub ready : (r : Reading) (n m : ℕ) → done n ≡ counted r → n ≤ m → Fillable r m
ready r n m e h = let d = counted-done r n e in (d.0, omega arith)

pub decode_bad : (r : Reading) (b : List ℕ) (k : ℕ) → refused 5 k ≡ counted r → outcome (refused 5 k) b ≡ decoded r b
unfolding counted decoded
decode_bad (scalars cs) b k e = let z : ◌≡◌ {A = ℕ} 0 1 = cc in absurd (omega arith)
decode_bad (bad_at j) b k e = rw e

module _ (r : Reading) (b : List ℕ) (n : ℕ) (e : done n ≡ counted r) where
  decoded-scalars : decoded r b ≡ stored (scalars_of r) b
  unfolding decoded
  decoded-scalars = ap (λ (x : Reading). decoded x b) (counted-done r n e).0

  pub decode_full : length b < n → outcome (refused 8 0) b ≡ decoded r b
  decode_full h = rw decoded-scalars (stored-not (scalars_of r) b n (counted-done r n e).1 h)

  pub decode_all : (t : List ℕ) → n ≤ length b → t ≡ over (scalars_of r) b → outcome (done n) t ≡ decoded r b
  decode_all t h f = rw decoded-scalars (stored-all (scalars_of r) b n (counted-done r n e).1 t h f)
