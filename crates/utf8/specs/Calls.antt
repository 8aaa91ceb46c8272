-- What each call leaves: its answer, and every slice that was lent to it.
use Rattle.std.specs.Prelude.{cond, List, [], ◌≡◌, ℕ, zero, suc, ◌+◌, ◌≤◌, ltb, length, take, drop}
use Rattle.promise.specs.Paper.{Paper, done, refused}
use Rattle.promise.specs.Slices.{over}
use Rattle.utf8.specs.Rfc3629.{Range, taken, number, scalar, octets}
use Rattle.utf8.specs.Reading.{Reading, scalars, bad_at, all_scalar, writing}

-- the answer, and the lent slice at exit
pub record Outcome : Type 0 where
  pub answer : Paper ℕ
  pub out : List ℕ

abbrev pub outcome : Paper ℕ → List ℕ → Outcome
outcome a o = record { answer = a; out = o }

-- xs goes to the slice, or 8 where it is longer
unfoldable pub stored : List ℕ → List ℕ → Outcome
stored xs out = cond (ltb (length out) (length xs)) (outcome (refused 8 0) out) (outcome (done (length xs)) (over xs out))

-- read_scalar, by a rule of the ABNF: of n octets s at offset `at`
unfoldable pub stepped : ℕ → List ℕ → ℕ → Paper (ℕ × ℕ)
stepped zero s at = refused 5 at
stepped (suc n) s at = done (number (take (suc n) s), at + suc n)

abbrev pub step_by : List (List Range) → List ℕ → ℕ → Paper (ℕ × ℕ)
step_by rule s at = stepped (taken rule (drop at s)) (drop at s) at

-- count_scalars
unfoldable pub counted : Reading → Paper ℕ
counted (scalars cs) = done (length cs)
counted (bad_at k) = refused 5 k

-- decode: 5, then 8
unfoldable pub decoded : Reading → List ℕ → Outcome
decoded (scalars cs) out = stored cs out
decoded (bad_at k) out = outcome (refused 5 k) out

-- sequence_of
unfoldable pub sequence_of : ℕ → Paper (List ℕ)
sequence_of c = cond (scalar c) (done (octets c)) (refused 1 0)

-- count_octets
unfoldable pub octet_count : List ℕ → Paper ℕ
octet_count cs = cond (all_scalar cs) (done (length (writing cs))) (refused 1 0)

-- encode: 1, then 8
unfoldable pub encoded : List ℕ → List ℕ → Outcome
encoded cs out = cond (all_scalar cs) (stored (writing cs) out) (outcome (refused 1 0) out)

-- What the workers below the calls speak of: the scalars of well-formed octets, and that they fit n places.
unfoldable pub scalars_of : Reading → List ℕ
scalars_of (scalars cs) = cs
scalars_of (bad_at k) = []

abbrev pub Fillable : Reading → ℕ → Type 0
Fillable r n = (r ≡ scalars (scalars_of r)) × (length (scalars_of r) ≤ n)

-- the octets of a sequence, none of a refused one
abbrev pub octets_in : Paper (List ℕ) → List ℕ
octets_in (done os) = os
octets_in (refused n k) = []
