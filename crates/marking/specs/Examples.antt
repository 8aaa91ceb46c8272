-- What rules out wrong carriers and printers of marks: each line is what the promise asks for at one input, and above it stands the program
-- that leaves something else there.
use Rattle.std.specs.Prelude.{◌≡◌, [], ◌∷◌, ◌++◌, Some, None, map}
use Rattle.text.specs.Rows.{at}
use Rattle.select.specs.Sels.{sel}
use Rattle.edit.specs.declared.Edit.TheVariants.{InsertStr}
use Rattle.shift.specs.Answers.{to, dropped}
use Rattle.frame.specs.Numbers.{position}
use Rattle.printing.specs.Prints.{printed_as}
use Rattle.marking.specs.Slots.{slot_of, marks_in, marks_over}
use Rattle.marking.specs.Carries.{carried_mark}
use Rattle.marking.specs.MarkLines.{mark_line}

pub record RuledOut : Type 0 where
  -- a mark printed with its ends exchanged
  pub ends : mark_line (to (sel (at 0 1) (at 2 3))) ≡ printed_as (0x02 ∷ (position (at 0 1) ++ position (at 2 3)))
  -- over "X" at the front, every second mark left where it is
  pub second :
      let m = Some (sel (at 0 0) (at 0 1)) ∷ Some (sel (at 0 2) (at 0 3)) ∷ [] in
      marks_over (map (carried_mark [] (InsertStr (at 0 0)) (0x58 ∷ []) []) (marks_in 2 m)) m
      ≡ Some (sel (at 0 1) (at 0 2)) ∷ Some (sel (at 0 3) (at 0 4)) ∷ []
  -- a dropped mark kept, at the front of the text
  pub drops : slot_of dropped ≡ None
  -- a dropped mark printed as 02
  pub lost : mark_line dropped ≡ 48 ∷ 51 ∷ 10 ∷ []
