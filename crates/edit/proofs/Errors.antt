-- The errors of UTF-8 are told as the refusals that they are.
use mathlib.Core.Path.{◌≡◌, refl}
use Rattle.std.specs.Prelude.{Err}
use Rattle.utf8.specs.declared.DecodeError.{DecodeError}
use Rattle.utf8.specs.declared.DecodeError.TheVariants as decode_error
use Rattle.utf8.specs.declared.EncodeError.{EncodeError}
use Rattle.utf8.specs.declared.EncodeError.TheVariants as encode_error
use Rattle.utf8.specs.Answers.{paper_decoded, paper_encoded}
use Rattle.edit.specs.Call.{paper}
use Rattle.edit.specs.Errors.{decode_refusal, encode_refusal}

pub decode_refused : (e : DecodeError) → paper (Err (decode_refusal e)) ≡ paper_decoded (Err e)
decode_refused (decode_error.BadUtf8 at) = refl
decode_refused decode_error.NoRoom = refl

pub encode_refused : (e : EncodeError) → paper (Err (encode_refusal e)) ≡ paper_encoded (Err e)
encode_refused encode_error.BadText = refl
encode_refused encode_error.NoRoom = refl
