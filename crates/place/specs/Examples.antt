-- What rules out wrong judges of a line's place: each line is what the promise asks for at one input, and above it stands the program that
-- answers something else there.
use Rattle.std.specs.Prelude.{◌≡◌, true, false, [], ◌∷◌, replicate}
use Rattle.text.specs.Rows.{at}
use Rattle.select.specs.Sels.{sel}
use Rattle.hexline.specs.Digits.{hexed}
use Rattle.edit.specs.declared.Edit.TheVariants.{InsertStr}
use Rattle.frame.specs.declared.Head.TheVariants as as_head
use Rattle.frame.specs.Forms.{malformed, text, mark, plain, head_of}
use Rattle.place.specs.declared.Place.{Place}
use Rattle.place.specs.Places.{placed, judged, seen}

abbrev pub fresh : Place
fresh = record { sound = false; marks = 0; edited = false }

pub record RuledOut : Type 0 where
  -- a mark's anchor looked up twice, and its head not
  pub head : placed fresh (0x61 ∷ []) (mark (sel (at 0 0) (at 0 2))) ≡ malformed
  -- a mark kept after an edit, while there are fewer than 64
  pub after_edit : placed (record { sound = true; marks = 0; edited = true }) (0x61 ∷ []) (mark (sel (at 0 0) (at 0 1))) ≡ malformed
  -- an edit after the first not in its place
  pub second_edit : placed (record { sound = true; marks = 0; edited = true }) [] (plain (InsertStr (at 0 0))) ≡ plain (InsertStr (at 0 0))
  -- a malformed line that counts as a sound one
  pub uncounted : seen fresh malformed ≡ fresh
  -- no line that counts as a sound one; an edit that is not seen
  pub sound : seen fresh (text []) ≡ record { sound = true; marks = 0; edited = false }
  pub edited : seen fresh (plain (InsertStr (at 0 0))) ≡ record { sound = true; marks = 0; edited = true }
  -- a line of 512 digits read into an array of 255 bytes
  pub longest_short : head_of (judged fresh [] (hexed (0x01 ∷ replicate 255 0x61))) ≡ as_head.Text
