-- Marks in a slice, in the order read.
use Rattle.std.specs.Prelude.{List, ◌++◌, ℕ, Option, Some, None, map, take, drop, length}
use Rattle.select.specs.declared.Sel.{Sel}
use Rattle.shift.specs.Answers.{Followed, to, dropped, followed}

-- what is kept of a mark
unfoldable pub slot_of : Followed Sel → Option Sel
slot_of (to m) = Some m
slot_of dropped = None

-- the first n marks of a slice
abbrev pub marks_in : ℕ → List (Option Sel) → List (Followed Sel)
marks_in n l = map followed (take n l)

-- a slice with these marks at its front; the rest keeps its contents
abbrev pub marks_over : List (Followed Sel) → List (Option Sel) → List (Option Sel)
marks_over ms l = map slot_of ms ++ drop (length ms) l
