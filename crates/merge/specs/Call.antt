-- The whole call of merge_overlapping: from both slices at entry to the answer and the output at exit.
use Rattle.std.specs.Prelude.{Bool, not, List, [], ◌∷◌, ℕ, ◌%◌, leb, eqb, length}
use Rattle.promise.specs.Paper.{Paper, done, refused}
use Rattle.promise.specs.Slices.{over}
use Rattle.edit.specs.declared.Refusal.{Refusal}
use Rattle.edit.specs.declared.Refusal.TheVariants.{TooMany, BadPayload, NoRecord}
use Rattle.edit.specs.Call.{number_of, offset_of, first_of}
use Rattle.select.specs.declared.Sel.{Sel}
use Rattle.sorting.specs.Flat.{flat, sels}
use Rattle.merge.specs.Merging.{merged}
use Rattle.std.specs.Prelude.{Result, Ok, Err}

-- 3 TooMany: "selections over its limit", which is "up to 4,096 numbers (1,024 selections, four to each)"; 4 BadPayload:
-- "selections not in fours"; 9 NoRecord: "merge output shorter than input", whatever would merge
abbrev pub merge_tests : List ℕ → List ℕ → List (Bool × Refusal)
merge_tests input out =
    (not (leb (length input) 4_096), TooMany) ∷ (not (eqb (length input % 4) 0), BadPayload) ∷ (not (leb (length input) (length out)), NoRecord) ∷ []

pub record Outcome : Type 0 where
  pub answer : Paper ℕ
  pub out : List ℕ

abbrev pub outcome : Paper ℕ → List ℕ → Outcome
outcome a o = record { answer = a; out = o }

-- "nothing lent changes"; "every other output slice past what is written" keeps its contents
unfoldable pub leaves : Paper ℕ → List Sel → List ℕ → Outcome
leaves (refused n k) ss out = outcome (refused n k) out
leaves (done n) ss out = outcome (done n) (over (flat ss) out)

-- "merge counts equal the lengths of the defined lists"
unfoldable pub merged_in : List ℕ → List ℕ → Outcome
merged_in input out =
    let ss = merged (sels input) in
    leaves (first_of (merge_tests input out) (done (length ss))) ss out
