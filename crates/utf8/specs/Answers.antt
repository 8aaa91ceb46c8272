-- What each case of an answer says in document 01's words: its number in the table of refusals, and its values.
use Rattle.std.specs.Prelude.{List, [], ◌∷◌, ℕ, Result, Ok, Err}
use Rattle.promise.specs.Paper.{Paper, done, refused}
use Rattle.utf8.specs.declared.Scalar.{Scalar}
use Rattle.utf8.specs.declared.Sequence.{Sequence}
use Rattle.utf8.specs.declared.Sequence.TheVariants as sequence
use Rattle.utf8.specs.declared.BadUtf8.{BadUtf8}
use Rattle.utf8.specs.declared.BadText.{BadText}
use Rattle.utf8.specs.declared.DecodeError.{DecodeError}
use Rattle.utf8.specs.declared.DecodeError.TheVariants as decode_error
use Rattle.utf8.specs.declared.EncodeError.{EncodeError}
use Rattle.utf8.specs.declared.EncodeError.TheVariants as encode_error

-- 1 BadText: "from the writer, 1 means a value that is none".
-- 5 BadUtf8: "ill-formed bytes, with the offset where the first bad sequence starts".
-- 8 NoRoom: "decoded or encoded output too long for its slice".

-- a scalar, and the offset after its sequence
abbrev pub paper_step : Result Scalar BadUtf8 → Paper (ℕ × ℕ)
paper_step (Ok s) = done (s.value, s.next.0)
paper_step (Err e) = refused 5 e.0.0

abbrev pub paper_scalar_count : Result ℕ BadUtf8 → Paper ℕ
paper_scalar_count (Ok n) = done n
paper_scalar_count (Err e) = refused 5 e.0.0

abbrev pub paper_decoded : Result ℕ DecodeError → Paper ℕ
paper_decoded (Ok n) = done n
paper_decoded (Err (decode_error.BadUtf8 at)) = refused 5 at.0
paper_decoded (Err decode_error.NoRoom) = refused 8 0

-- the octets of one scalar
abbrev pub octets_of : Sequence → List ℕ
octets_of (sequence.One a) = a ∷ []
octets_of (sequence.Two a b) = a ∷ b ∷ []
octets_of (sequence.Three a b c) = a ∷ b ∷ c ∷ []
octets_of (sequence.Four a b c d) = a ∷ b ∷ c ∷ d ∷ []

abbrev pub paper_sequence : Result Sequence BadText → Paper (List ℕ)
paper_sequence (Ok s) = done (octets_of s)
paper_sequence (Err e) = refused 1 0

abbrev pub paper_octet_count : Result ℕ BadText → Paper ℕ
paper_octet_count (Ok n) = done n
paper_octet_count (Err e) = refused 1 0

abbrev pub paper_encoded : Result ℕ EncodeError → Paper ℕ
paper_encoded (Ok n) = done n
paper_encoded (Err encode_error.BadText) = refused 1 0
paper_encoded (Err encode_error.NoRoom) = refused 8 0
