-- Selections with a fixed end and a moving one. In quotes, the original's words; document 01 has "Positions order by row, then
-- column."
use Rattle.std.specs.Prelude.{Bool, ◌&&◌, eqb}
use Rattle.text.specs.declared.Position.{Position}
use Rattle.text.specs.Rows.{upto, earlier, later}
use Rattle.select.specs.declared.Sel.{Sel}

-- "A selection from `anchor` to `head`."
abbrev pub sel : Position → Position → Sel
sel a h = record { anchor = a; head = h }

-- "True when the selection has no extent."
abbrev pub is_caret : Sel → Bool
is_caret s = eqb s.anchor.row.0 s.head.row.0 && eqb s.anchor.col.0 s.head.col.0

-- "The earlier of the two ends, in document order."
abbrev pub start : Sel → Position
start s = earlier s.anchor s.head

-- "The later of the two ends, in document order."
abbrev pub end : Sel → Position
end s = later s.anchor s.head

-- "a selection with extent covers `[start, end]` inclusive of both"
abbrev pub covers : Sel → Position → Bool
covers s p = upto (start s) p && upto p (end s)

-- "True when `self` and `other` cover any common position" (that it is this is the theorem `OverlapsShares`)
abbrev pub overlaps : Sel → Sel → Bool
overlaps s t = upto (start s) (end t) && upto (start t) (end s)
