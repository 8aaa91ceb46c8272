-- What is proved of these definitions, beside that the code meets them. The proofs stand in proofs/Theorems.antt.
use Rattle.std.specs.Prelude.{true, Result, List, ◌∷◌, ◌++◌, ◌≡◌, ℕ, ◌-◌, ◌≤◌, ◌<◌, length, take}
use Rattle.std.specs.Int.Count.{count_leading_zeros}
use Rattle.promise.specs.Paper.{done}
use Rattle.promise.specs.Settled.{Settles}
use Rattle.utf8.specs.declared.DecodeError.{DecodeError}
use Rattle.utf8.specs.declared.EncodeError.{EncodeError}
use Rattle.utf8.specs.Rfc3629.{UTF8-char, taken}
use Rattle.utf8.specs.Lead.{announced}
use Rattle.utf8.specs.Reading.{scalars, bad_at, reading, all_scalar, writing}
use Rattle.utf8.specs.Answers.{paper_step, paper_scalar_count, paper_decoded, paper_sequence, paper_octet_count, paper_encoded}
use Rattle.promise.specs.Slices.{over}
use Rattle.utf8.specs.Calls.{outcome, decoded, encoded}

-- The table of section 3 and the ABNF of section 4 say the same: octets are well formed, and of the scalars cs, exactly
-- where they are what cs is written as.
abbrev pub ReadsWritten : Type 0
ReadsWritten = (cs : List ℕ) → all_scalar cs ≡ true → reading (writing cs) ≡ scalars cs

abbrev pub WritesRead : Type 0
WritesRead = (s cs : List ℕ) → reading s ≡ scalars cs → (all_scalar cs ≡ true) × (writing cs ≡ s)

-- The two round trips of the calls: what encode left is decoded to its scalars, and what decode left is encoded to its bytes.
abbrev pub DecodesEncoded : Type 0
DecodesEncoded =
    (cs out back : List ℕ) (n : ℕ) → (encoded cs out).answer ≡ done n → length cs ≤ length back
    → decoded (reading (take n (encoded cs out).out)) back ≡ outcome (done (length cs)) (over cs back)

abbrev pub EncodesDecoded : Type 0
EncodesDecoded =
    (s out back : List ℕ) (n : ℕ) → (decoded (reading s) out).answer ≡ done n → length s ≤ length back
    → encoded (take n (decoded (reading s) out).out) back ≡ outcome (done (length s)) (over s back)

-- The offset of a refusal, each way: the octets before it are what some scalars are written as, and no UTF8-char starts
-- there.
abbrev pub BadPlace : Type 0
BadPlace =
    (s : List ℕ) (k : ℕ) → reading s ≡ bad_at k
    → (cs : List ℕ) × (q : List ℕ) × (s ≡ writing cs ++ q) × (length (writing cs) ≡ k) × (all_scalar cs ≡ true) × (0 < length q) × (taken UTF8-char q ≡ 0)

abbrev pub RefusesThere : Type 0
RefusesThere = (cs q : List ℕ) → all_scalar cs ≡ true → 0 < length q → taken UTF8-char q ≡ 0 → reading (writing cs ++ q) ≡ bad_at (length (writing cs))

-- Document 01's rule for the lead byte agrees with the ABNF.
abbrev pub LeadAnnounces : Type 0
LeadAnnounces = (b : ℕ) (s : List ℕ) → b < 256 → taken UTF8-char (b ∷ s) ≡ taken (announced (count_leading_zeros 8 (255 - b))) (b ∷ s)

-- Each public promise settles the whole outcome: the answer and the lent slice.
pub record Settled : Type 0 where
  pub read_scalar : Settles paper_step
  pub count_scalars : Settles paper_scalar_count
  pub decode : Settles {A = Result ℕ DecodeError × List ℕ} (λ o. outcome (paper_decoded o.0) o.1)
  pub sequence_of : Settles paper_sequence
  pub count_octets : Settles paper_octet_count
  pub encode : Settles {A = Result ℕ EncodeError × List ℕ} (λ o. outcome (paper_encoded o.0) o.1)
