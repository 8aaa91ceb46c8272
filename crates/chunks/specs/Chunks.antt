-- What the parts of a chunk delete find and leave.
use Rattle.std.specs.Prelude.{List, ℕ, ◌+◌, ◌-◌, length, take}
use Rattle.text.specs.declared.Position.{Position}
use Rattle.text.specs.Rows.{char_at, at, row_start, row_end, offset}
use Rattle.text.specs.Text.{is_lf, renewed}
use Rattle.promise.specs.Slices.{over}
use Rattle.edit.specs.Edits.{Edited, chunks_deleted}
use Rattle.edit.specs.Refusals.{is_space, spaces}
use Rattle.blocks.specs.Blocks.{last_end}
use Rattle.chunks.specs.declared.Cut.{Cut}
use Rattle.chunks.specs.declared.Sizes.{Sizes}

-- cut_splice: where the cut of a row begins, where its chunk begins, where both end, and where the row ends
abbrev pub cut_at : List ℕ → Position → ℕ → ℕ → Cut
cut_at t p w d = record {
  from = char_at (offset is_lf t (at p.row.0 (p.col.0 - d)));
  chunk = char_at (offset is_lf t p);
  to = char_at (offset is_lf t (at p.row.0 (p.col.0 + w)));
  end = char_at (row_end is_lf t p.row.0);
}

-- cut_size: how long the text and the payload of its inverse are, where the first row starts, and where the last row that is cut ends
abbrev pub sizes_of : List ℕ → Position → List ℕ → List ℕ → Sizes
sizes_of t p ws ds =
    let d = chunks_deleted is_lf is_space spaces t p ws ds in
    record {
      used = length d.text;
      payload = length d.inverse.payload;
      start = char_at (row_start is_lf t p.row.0);
      end = char_at (last_end t p.row.0 (length ws));
    }

-- cut_rows, cut_block: the three slices that it writes
pub record Left : Type 0 where
  pub text : List ℕ
  pub out : List ℕ
  pub lens : List ℕ

abbrev pub left : List ℕ → List ℕ → List ℕ → Left
left t o l = record { text = t; out = o; lens = l }

abbrev pub cut_from : List ℕ → ℕ → Position → List ℕ → List ℕ → Edited ℕ
cut_from b used p ws ds = chunks_deleted is_lf is_space spaces (take used b) p ws ds

abbrev pub left_by : Edited ℕ → List ℕ → ℕ → List ℕ → List ℕ → Left
left_by d b used o l = left (renewed b used d.text) (over d.inverse.payload o) (over d.inverse.first l)
