-- What merging makes of some selections.
use Rattle.std.specs.Prelude.{cond, List, [], ◌∷◌}
use Rattle.text.specs.Rows.{earlier, later}
use Rattle.select.specs.declared.Sel.{Sel}
use Rattle.select.specs.Sels.{sel, start, end, overlaps}
use Rattle.sorting.specs.Sorting.{sorted, by_start}

-- "a merged one runs forward"
abbrev pub merge_two : Sel → Sel → Sel
merge_two s t = sel (earlier (start s) (start t)) (later (end s) (end t))

-- "then merges those sharing even one position": those left, after the last one so far
unfoldable pub collapsed : Sel → List Sel → List Sel
collapsed last [] = last ∷ []
collapsed last (s ∷ ss) = cond (overlaps last s) (collapsed (merge_two last s) ss) (last ∷ collapsed s ss)

-- the first is the last one so far
unfoldable pub collapse : List Sel → List Sel
collapse [] = []
collapse (s ∷ ss) = collapsed s ss

-- the two steps: "sorts stably by start .. then merges"
abbrev pub merged : List Sel → List Sel
merged l = collapse (sorted by_start l)
