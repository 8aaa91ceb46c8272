-- The refusals that the errors of UTF-8 are.
use Rattle.utf8.specs.declared.DecodeError.{DecodeError}
use Rattle.utf8.specs.declared.DecodeError.TheVariants as decode_error
use Rattle.utf8.specs.declared.EncodeError.{EncodeError}
use Rattle.utf8.specs.declared.EncodeError.TheVariants as encode_error
use Rattle.edit.specs.declared.Refusal.{Refusal}
use Rattle.edit.specs.declared.Refusal.TheVariants.{BadText, BadUtf8, NoRoom}

abbrev pub decode_refusal : DecodeError → Refusal
decode_refusal (decode_error.BadUtf8 at) = BadUtf8 at
decode_refusal decode_error.NoRoom = NoRoom

abbrev pub encode_refusal : EncodeError → Refusal
encode_refusal encode_error.BadText = BadText
encode_refusal encode_error.NoRoom = NoRoom
