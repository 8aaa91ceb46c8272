-- The examples, computed.
use mathlib.Core.Path.{refl}
use Rattle.frame.specs.Forms.{before, block_form, block_of, chunks_form, columns_in, delete_form, flagged, flags_in, form_by, insert_form, join_form, kind_form, mark_form, pads_in, replace_form, split_form, strings_from, widths_in}
use Rattle.frame.specs.Numbers.{items, number_in}
use Rattle.text.specs.Text.{all}
use Rattle.frame.specs.Examples.{RuledOut}

pub ruled_out : RuledOut
unfolding before block_form block_of chunks_form columns_in delete_form flagged flags_in form_by insert_form join_form kind_form mark_form pads_in replace_form split_form strings_from widths_in items number_in all
ruled_out = record { insert = refl; kind_line = refl; three = refl; mark_longer = refl; join_flag = refl; half_chunk = refl }
