-- Each public promise settles its outcome: a case of an answer can be read back from what document 01 says of it.
use mathlib.Core.Path.{◌≡◌, refl, ap}
use mathlib.Core.Bool.{cond}
use mathlib.Core.List.{List, [], ◌∷◌}
use Prim.Native.Nat.{ℕ}
use lib.Dec.{eqb}
use Rattle.promise.specs.Paper.{Paper, done, refused}
use Rattle.promise.proofs.Settled.{settled}
use Rattle.std.specs.Prelude.{Result, Ok, Err}
use Rattle.utf8.specs.declared.Scalar.{Scalar}
use Rattle.utf8.specs.declared.Sequence.{Sequence}
use Rattle.utf8.specs.declared.Sequence.TheVariants as sequence
use Rattle.utf8.specs.declared.BadUtf8.{BadUtf8}
use Rattle.utf8.specs.declared.BadText.{BadText}
use Rattle.utf8.specs.declared.DecodeError.{DecodeError}
use Rattle.utf8.specs.declared.DecodeError.TheVariants as decode_error
use Rattle.utf8.specs.declared.EncodeError.{EncodeError}
use Rattle.utf8.specs.declared.EncodeError.TheVariants as encode_error
use Rattle.utf8.specs.Answers.{paper_step, paper_scalar_count, paper_decoded, paper_sequence, paper_octet_count, paper_encoded}
use Rattle.utf8.specs.Theorems.{Settled}

step_back : Paper (ℕ × ℕ) → Result Scalar BadUtf8
step_back (done p) = Ok (record { value = p.0; next = record { 0 = p.1 } })
step_back (refused n k) = Err (record { 0 = record { 0 = k } })

step_back_lem : (x : Result Scalar BadUtf8) → step_back (paper_step x) ≡ x
unfolding step_back
step_back_lem (Ok s) = refl
step_back_lem (Err e) = refl

count_back : Paper ℕ → Result ℕ BadUtf8
count_back (done n) = Ok n
count_back (refused n k) = Err (record { 0 = record { 0 = k } })

count_back_lem : (x : Result ℕ BadUtf8) → count_back (paper_scalar_count x) ≡ x
unfolding count_back
count_back_lem (Ok n) = refl
count_back_lem (Err e) = refl

decoded_back : Paper ℕ → Result ℕ DecodeError
decoded_back (done n) = Ok n
decoded_back (refused n k) = Err (cond (eqb n 8) decode_error.NoRoom (decode_error.BadUtf8 (record { 0 = k })))

decoded-back : (x : Result ℕ DecodeError) → decoded_back (paper_decoded x) ≡ x
unfolding decoded_back
decoded-back (Ok n) = refl
decoded-back (Err (decode_error.BadUtf8 at)) = refl
decoded-back (Err decode_error.NoRoom) = refl

sequence_back : Paper (List ℕ) → Result Sequence BadText
sequence_back (done []) = Err (record {})
sequence_back (done (a ∷ [])) = Ok (sequence.One a)
sequence_back (done (a ∷ b ∷ [])) = Ok (sequence.Two a b)
sequence_back (done (a ∷ b ∷ c ∷ [])) = Ok (sequence.Three a b c)
sequence_back (done (a ∷ b ∷ c ∷ d ∷ s)) = Ok (sequence.Four a b c d)
sequence_back (refused n k) = Err (record {})

sequence_back_lem : (x : Result Sequence BadText) → sequence_back (paper_sequence x) ≡ x
unfolding sequence_back
sequence_back_lem (Ok (sequence.One a)) = refl
sequence_back_lem (Ok (sequence.Two a b)) = refl
sequence_back_lem (Ok (sequence.Three a b c)) = refl
sequence_back_lem (Ok (sequence.Four a b c d)) = refl
sequence_back_lem (Err e) = refl

octets_back : Paper ℕ → Result ℕ BadText
octets_back (done n) = Ok n
octets_back (refused n k) = Err (record {})

octets-back : (x : Result ℕ BadText) → octets_back (paper_octet_count x) ≡ x
unfolding octets_back
octets-back (Ok n) = refl
octets-back (Err e) = refl

encoded_back : Paper ℕ → Result ℕ EncodeError
encoded_back (done n) = Ok n
encoded_back (refused n k) = Err (cond (eqb n 8) encode_error.NoRoom encode_error.BadText)

encoded-back : (x : Result ℕ EncodeError) → encoded_back (paper_encoded x) ≡ x
unfolding encoded_back
encoded-back (Ok n) = refl
encoded-back (Err encode_error.BadText) = refl
encoded-back (Err encode_error.NoRoom) = refl

pub promises_settle : Settled
promises_settle =
    record {
      read_scalar = settled step_back step_back_lem;
      count_scalars = settled count_back count_back_lem;
      decode = settled (λ l. (decoded_back l.answer, l.out)) (λ x. ap (λ (d : Result ℕ DecodeError). (d, x.1)) (decoded-back x.0));
      sequence_of = settled sequence_back sequence_back_lem;
      count_octets = settled octets_back octets-back;
      encode = settled (λ l. (encoded_back l.answer, l.out)) (λ x. ap (λ (d : Result ℕ EncodeError). (d, x.1)) (encoded-back x.0));
    }
