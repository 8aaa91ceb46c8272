-- The whole call: what was counted decides it.
use mathlib.Core.Path.{◌≡◌, refl}
use mathlib.Core.Bool.{Bool, true, false, cond}
use mathlib.Core.List.{List}
use Prim.Native.Nat.{ℕ, ◌≤◌, ◌<◌}
use native.Mathlib.Omega.{arith}
use lib.ListN.{length}
use Rattle.promise.specs.Paper.{done, refused}
use Rattle.promise.specs.Slices.{over}
use Rattle.utf8.specs.Reading.{all_scalar, writing}
use Rattle.utf8.specs.Calls.{outcome, stored, octet_count, encoded}
use Rattle.utf8.proofs.Stores.{stored-not, stored-all}
use Rattle.utf8.proofs.Writings.{counted-done}

pub encode_bad : (cs b : List ℕ) → refused 1 0 ≡ octet_count cs → outcome (refused 1 0) b ≡ encoded cs b
unfolding octet_count encoded
encode_bad cs b e = go (all_scalar cs) e
  where
    go : (x : Bool) → refused 1 0 ≡ cond x (done (length (writing cs))) (refused 1 0) → outcome (refused 1 0) b ≡ cond x (stored (writing cs) b) (outcome (refused 1 0) b)
    go true e = let z : ◌≡◌ {A = ℕ} 0 1 = cc in absurd (omega arith)
    go false e = refl

module _ (cs b : List ℕ) (n : ℕ) (e : done n ≡ octet_count cs) where
  encoded-octets : encoded cs b ≡ stored (writing cs) b
  unfolding encoded
  encoded-octets = rw (counted-done cs n e).0

  pub encode_full : length b < n → outcome (refused 8 0) b ≡ encoded cs b
  encode_full h = rw encoded-octets (stored-not (writing cs) b n (counted-done cs n e).1 h)

  pub encode_all : (t : List ℕ) → n ≤ length b → t ≡ over (writing cs) b → outcome (done n) t ≡ encoded cs b
  encode_all t h f = rw encoded-octets (stored-all (writing cs) b n (counted-done cs n e).1 t h f)
