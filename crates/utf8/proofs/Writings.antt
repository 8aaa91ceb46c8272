-- A whole slice written: how long it is.
use mathlib.Core.Path.{◌≡◌, refl, ◌∙◌}
use mathlib.Core.Bool.{Bool, true, false, cond}
use mathlib.Core.List.{List, [], ◌∷◌}
use Prim.Native.Nat.{ℕ, ◌*◌, ◌≤◌}
use native.Mathlib.Omega.{arith}
use lib.ListN.{length, length-append}
use Rattle.std.specs.Prelude.{Result, Ok, Err, IsOk}
use Rattle.utf8.specs.declared.BadText.{BadText}
use Rattle.utf8.specs.Answers.{paper_octet_count}
use Rattle.promise.specs.Paper.{done, refused}
use Rattle.utf8.specs.Rfc3629.{octets}
use Rattle.utf8.specs.Reading.{all_scalar, writing}
use Rattle.utf8.specs.Calls.{octet_count}
use Rattle.utf8.proofs.Numbers.{octets-len}

-- no character takes more than four octets
pub writing-len : (cs : List ℕ) → length (writing cs) ≤ length cs * 4
unfolding writing
writing-len [] = omega arith
writing-len (c ∷ cs) = omega (arith, (octets-len c).1, writing-len cs, length-append (octets c) (writing cs))

pub counted-done : (cs : List ℕ) (n : ℕ) → done n ≡ octet_count cs → (all_scalar cs ≡ true) × (length (writing cs) ≡ n)
unfolding octet_count
counted-done cs n e = go (all_scalar cs) e
  where
    go : (x : Bool) → done n ≡ cond x (done (length (writing cs))) (refused 1 0) → (x ≡ true) × (length (writing cs) ≡ n)
    go true e = (refl, cc)
    go false e = let z : ◌≡◌ {A = ℕ} 0 1 = cc in absurd (omega arith)

-- scalars are counted
pub counted_ok : (r : Result ℕ BadText) (cs : List ℕ) → paper_octet_count r ≡ octet_count cs → all_scalar cs ≡ true → IsOk r
unfolding octet_count
counted_ok (Ok n) cs e s = refl
counted_ok (Err b) cs e s = let f : refused 1 0 ≡ done (length (writing cs)) = e ∙ rw s in let z : ◌≡◌ {A = ℕ} 0 1 = cc in absurd (omega arith)
