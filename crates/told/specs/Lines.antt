-- What is told of a line that was read.
use Rattle.promise.specs.Paper.{Paper, done, refused}
use Rattle.select.specs.declared.Sel.{Sel}
use Rattle.reader.specs.Calls.{Read, text, mark, edit}
use Rattle.plain.specs.declared.EditLine.{EditLine}
use Rattle.plain.specs.declared.SelFound.{SelFound}
use Rattle.plain.specs.Told.{found_sel, no_sel, told_line, no_line}

abbrev pub told_mark : Paper Sel → SelFound
told_mark (done m) = found_sel m
told_mark (refused n k) = no_sel n

-- an edit; another frame is none
abbrev pub told_read : Paper Read → EditLine
told_read (done (text n)) = no_line 10 0
told_read (done (mark m)) = no_line 10 0
told_read (done (edit e x f s)) = told_line e x f s
told_read (refused n k) = no_line n k
