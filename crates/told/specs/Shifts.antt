-- What is told of a shift.
use Rattle.promise.specs.Paper.{Paper, done, refused}
use Rattle.text.specs.declared.Position.{Position}
use Rattle.select.specs.declared.Sel.{Sel}
use Rattle.shift.specs.Answers.{Followed, to, dropped}
use Rattle.plain.specs.declared.Found.{Found}
use Rattle.plain.specs.declared.SelFound.{SelFound}
use Rattle.plain.specs.Told.{found_at, not_found, found_sel, no_sel}

-- "SplitLines answers Dropped, which is no refusal."
abbrev pub told_shifted : Paper (Followed Position) → Found
told_shifted (done (to p)) = found_at p
told_shifted (done dropped) = not_found 0
told_shifted (refused n k) = not_found n

abbrev pub told_sel_shifted : Paper (Followed Sel) → SelFound
told_sel_shifted (done (to l)) = found_sel l
told_sel_shifted (done dropped) = no_sel 0
told_sel_shifted (refused n k) = no_sel n
