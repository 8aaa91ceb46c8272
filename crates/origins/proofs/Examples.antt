-- The examples, computed.
use mathlib.Core.Path.{refl}
use Rattle.text.specs.Rows.{◌⊕◌, onto, lines, unlines, row_count, last_row, row_len, row_start, clamp, offset, end_of}
use Rattle.edit.specs.Edits.{inserted, chars_deleted, replaced, gap, join_row, join_cols, join_flags, put, put_all, pads_of, pieces, any_flag, joined, unspace, split_first, split_row, split, block_inserted, range_deleted, edited_by}
use Rattle.origins.specs.Origins.{opened_at, numbered, traced_run}
use Rattle.origins.specs.Examples.{RuledOut}

pub ruled_out : RuledOut
unfolding ◌⊕◌ onto lines unlines row_count last_row row_len row_start clamp offset end_of inserted chars_deleted replaced gap join_row join_cols join_flags put put_all pads_of pieces any_flag joined unspace split_first split_row split block_inserted range_deleted edited_by opened_at numbered traced_run
ruled_out = record { opened = refl; breaks = refl; inserted = refl; back = refl; replaced = refl; joined = refl; split = refl; padded = refl; chunks = refl }
