-- What rules out wrong records: each line is what the promise asks for at one answer, and above it stands the program that tells something else.
use Rattle.std.specs.Prelude.{◌≡◌, false}
use Rattle.promise.specs.Paper.{done, refused}
use Rattle.text.specs.Rows.{at}
use Rattle.select.specs.Sels.{sel}
use Rattle.edit.specs.declared.Edit.TheVariants.{InsertStr}
use Rattle.reader.specs.Calls.{edit}
use Rattle.script.specs.Calls.{paper_ran}
use Rattle.shift.specs.Answers.{dropped}
use Rattle.plain.specs.Told.{told_count}
use Rattle.told.specs.Shifts.{told_shifted, told_sel_shifted}
use Rattle.told.specs.Lines.{told_mark, told_read}
use Rattle.std.specs.Prelude.{Result, Ok, Err}
use Rattle.edit.specs.declared.Refusal.{Refusal}
use Rattle.utf8.specs.declared.NoRoom.{NoRoom}
use Rattle.edit.specs.Call.{paper}

pub record RuledOut : Type 0 where
  -- a line told to have as many digits as its frame has bytes
  pub digits : told_count (paper (Ok 6)) ≡ record { refusal = 0; offset = 0; count = 6 }
  -- a quarter of the selections told
  pub selections : told_count (paper (Ok 4)) ≡ record { refusal = 0; offset = 0; count = 4 }
  -- want of room for a script's output told as 9
  pub no_room : told_count (paper_ran (Err (record {}))) ≡ record { refusal = 8; offset = 0; count = 0 }
  -- a position or a selection that cannot be followed told as refused by 6
  pub lost_place : told_shifted (done dropped) ≡ record { refusal = 0; found = false; at = at 0 0 }
  pub lost : told_sel_shifted (done dropped) ≡ record { refusal = 0; found = false; sel = sel (at 0 0) (at 0 0) }
  -- a line that is no mark told as a mark that is not there; an edit's line told with nothing written
  pub no_mark : told_mark (refused 10 0) ≡ record { refusal = 10; found = false; sel = sel (at 0 0) (at 0 0) }
  pub written : (told_read (done (edit (InsertStr (at 0 1)) 2 0 0))).payload ≡ 2
