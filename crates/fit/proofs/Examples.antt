-- The examples, computed.
use mathlib.Core.Path.{refl}
use Rattle.utf8.specs.Rfc3629.{scalar}
use Rattle.text.specs.Rows.{onto, lines}
use Rattle.text.specs.Text.{admissible, all, text_ok}
use Rattle.edit.specs.Call.{first_of}
use Rattle.cells.specs.Wide.{wide_in, is_wide}
use Rattle.cells.specs.Cells.{tab_stop, cell_after, width_from, first_outside_from}
use Rattle.fit.specs.Calls.{row_or, first_over, fits_in}
use Rattle.fit.specs.Examples.{RuledOut, FittingRows}

pub ruled_out : RuledOut
unfolding scalar onto lines admissible all text_ok first_of wide_in is_wide tab_stop cell_after first_outside_from row_or first_over fits_in
ruled_out = record {
  column = refl;
  cell = refl;
  half = refl;
  breaks = refl;
  next_row = refl;
  first_row = refl;
  tab = refl;
  used = refl;
  no_text = refl;
  big_box = refl;
  big_tab = refl;
  widest = refl;
}

pub fitting_rows : FittingRows
unfolding onto lines all wide_in is_wide tab_stop cell_after width_from
fitting_rows = refl
