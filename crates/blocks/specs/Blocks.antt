-- What the parts of a block insert find and leave.
use Rattle.std.specs.Prelude.{List, ℕ, zero, suc, ◌+◌, ◌-◌, length, take}
use Rattle.promise.specs.Slices.{over}
use Rattle.text.specs.declared.Position.{Position}
use Rattle.text.specs.Rows.{char_at, row_len, row_end, offset}
use Rattle.text.specs.Text.{is_lf, renewed}
use Rattle.edit.specs.Edits.{Edited, block_inserted}
use Rattle.edit.specs.Refusals.{is_space, spaces}
use Rattle.blocks.specs.declared.Put.{Put}

-- put_splice: where a chunk goes into a row of the text, how many spaces come before it, and where the row ends
abbrev pub put_at : List ℕ → Position → Put
put_at t p = record {
  at = char_at (offset is_lf t p);
  pad = p.col.0 - row_len is_lf t p.row.0;
  end = char_at (row_end is_lf t p.row.0);
}

-- put_size: where the last of n rows from r on ends; of no rows, the end of the text
abbrev pub last_end : List ℕ → ℕ → ℕ → ℕ
last_end t r zero = length t
last_end t r (suc n) = row_end is_lf t (r + n)

-- put_rows, put_chunks: the two slices that it writes
pub record Left : Type 0 where
  pub text : List ℕ
  pub pads : List ℕ

abbrev pub left : List ℕ → List ℕ → Left
left t q = record { text = t; pads = q }

abbrev pub put_from : List ℕ → ℕ → Position → List ℕ → List ℕ → Edited ℕ
put_from b used p x ns = block_inserted is_lf is_space spaces (take used b) p x ns

abbrev pub left_by : Edited ℕ → List ℕ → ℕ → List ℕ → Left
left_by d b used q = left (renewed b used d.text) (over d.inverse.second q)
