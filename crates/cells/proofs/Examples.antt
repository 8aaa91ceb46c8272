-- The examples, computed.
use mathlib.Core.Path.{refl}
use Rattle.text.specs.Text.{all}
use Rattle.cells.specs.Wide.{is_wide, wide_in, edges, ascends, count_up_to}
use Rattle.cells.specs.Cells.{tab_stop, cell_after, width_from, first_outside_from, near_after}
use Rattle.cells.specs.Examples.{RuledOut, FittingRow, LongRow, RuleNeeded}

pub ruled_out : RuledOut
unfolding wide_in is_wide edges count_up_to tab_stop cell_after width_from first_outside_from near_after
ruled_out = record {
  kana = refl;
  fullwidth = refl;
  space = refl;
  halfwidth = refl;
  ambiguous = refl;
  combining = refl;
  byte_order_mark = refl;
  unassigned = refl;
  plane_two = refl;
  behind_it = refl;
  plane_three = refl;
  last = refl;
  before_first = refl;
  first = refl;
  first_end = refl;
  behind_first = refl;
  tab = refl;
  tab_again = refl;
  tab_none = refl;
  tab_kana = refl;
  half_outside = refl;
  tab_outside = refl;
  near_kept = refl;
  near_counted = refl;
  column = refl;
}

pub fitting_row : FittingRow
unfolding wide_in is_wide tab_stop cell_after first_outside_from
fitting_row = refl

pub long_row : LongRow
unfolding all wide_in is_wide
long_row = refl

pub rule_needed : RuleNeeded
unfolding edges ascends wide_in count_up_to
rule_needed = record { overlap = refl; in_both = refl; even = refl }
