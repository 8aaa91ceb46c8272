-- A script line by line: what each line prints, and what the script has after it.
use Rattle.std.specs.Prelude.{List, ◌∷◌, ◌++◌, map, ℕ, length, replicate}
use Rattle.promise.specs.Paper.{Paper, done, refused}
use Rattle.edit.specs.declared.Applied.{Applied}
use Rattle.edit.specs.Edits.{Whole, whole}
use Rattle.edit.specs.Call.{Lent, lent, Outcome, applied}
use Rattle.edit.specs.Demand3.{returned}
use Rattle.select.specs.declared.Sel.{Sel}
use Rattle.shift.specs.Answers.{Followed, to, dropped}
use Rattle.shift.specs.Call.{sel_shifted, kept}
use Rattle.frame.specs.Format.{Frame, text, edit, frame_bytes}
use Rattle.frame.specs.Reads.{read_form}
use Rattle.place.specs.declared.Place.{Place}
use Rattle.place.specs.Places.{judged, seen}
use Rattle.printing.specs.Prints.{printed_as}
use Rattle.marking.specs.InOrder.{in_order}
use Rattle.marking.specs.MarkLines.{mark_lines}
use Rattle.loading.specs.States.{State, state, text_in}
use Rattle.loading.specs.Loads.{Stepped, stepped, refuses, framed_by}

-- "applies with demand 3's record room": "a payload slice as long as the text buffer and 256 items in each list slice"
abbrev pub lent_to : State → Whole ℕ → Lent
lent_to s w = lent s.buffer w.payload w.first w.second (replicate (length s.buffer) 0) (replicate 256 0) (replicate 256 0)

-- "shifts marks"
unfoldable pub carried : State → Whole ℕ → Followed Sel → Followed Sel
carried s w (to m) = kept (sel_shifted s.buffer s.view.used w.edit w.payload w.first w.second m)
carried s w dropped = dropped

-- "Per edit line it prints 00 and the inverse frame, or the refusal byte"; "A refused edit shifts no mark."
unfoldable pub answered : State → Whole ℕ → Outcome → Paper Applied → Stepped
answered s w o (done a) =
    stepped (state a.view o.text s.place (map (carried s w) s.marks)) (printed_as (0 ∷ frame_bytes (edit (returned a o))))
answered s w o (refused n k) = refuses s n

unfoldable pub ran : State → Whole ℕ → Stepped
ran s w = let o = applied s.view w.edit (lent_to s w) in answered s w o o.answer

abbrev pub ordered : Whole ℕ → Whole ℕ
ordered w = whole (in_order w.edit) w.payload w.first w.second

abbrev pub edited : State → Whole ℕ → Stepped
edited s w = ran s (ordered w)

-- what a frame in its place does, or the refusal of its line
abbrev pub framed : State → Paper Frame → Stepped
framed s p = framed_by (edited s) s p

abbrev pub sees : State → Place → State
sees s p = state s.view s.buffer p s.marks

-- "A line is judged for form (10), then UTF-8 (5, offset not printed), then as its call, in table order."
unfoldable pub step : State → List ℕ → Stepped
step s l = let g = judged s.place (text_in s) l in framed (sees s (seen s.place g)) (read_form g)

-- "at the end the text frame, then each mark"
unfoldable pub ending : State → List ℕ
ending s = printed_as (frame_bytes (text (text_in s))) ++ mark_lines s.marks
