-- Edits and selections by the number of their kind. A kind that is none means nothing.
use Rattle.std.specs.Prelude.{true, false, Option, Some, None, List, [], ◌∷◌, ℕ, zero, suc}
use Rattle.text.specs.declared.Position.{Position}
use Rattle.text.specs.declared.Row.{Row}
use Rattle.text.specs.Rows.{at}
use Rattle.edit.specs.declared.MotionKind.{MotionKind}
use Rattle.edit.specs.declared.MotionKind.TheVariants.{Char, Line as Lines, Block}
use Rattle.edit.specs.declared.Edit.{Edit}
use Rattle.edit.specs.declared.Edit.TheVariants.{InsertChar, InsertStr, DeleteRange, JoinLines, SplitLines, Replace, InsertBlock, DeleteBlockChunks}
use Rattle.select.specs.declared.Sel.{Sel}
use Rattle.select.specs.declared.Selection.{Selection}
use Rattle.select.specs.declared.Selection.TheVariants as as_selection
use Rattle.plain.specs.declared.Numbers.{Numbers}

-- the item of this number, if there is one
unfoldable pub item : {A : Type 0} → List A → ℕ → Option A
item [] k = None
item (x ∷ xs) zero = Some x
item (x ∷ xs) (suc k) = item xs k

-- the kinds in their order
abbrev pub edits : Numbers → List Edit
edits n =
    InsertChar n.start
    ∷ InsertStr n.start
    ∷ DeleteRange n.start n.end Char
    ∷ DeleteRange n.start n.end Lines
    ∷ DeleteRange n.start n.end Block
    ∷ JoinLines n.start.row n.count false
    ∷ JoinLines n.start.row n.count true
    ∷ SplitLines n.start.row
    ∷ Replace n.start n.end
    ∷ InsertBlock n.start
    ∷ DeleteBlockChunks n.start
    ∷ []

abbrev pub meant : Numbers → Option Edit
meant n = item (edits n) n.kind

abbrev pub selections : Sel → List Selection
selections s =
    as_selection.Char s.anchor s.head ∷ as_selection.Line s.anchor.row s.head.row ∷ as_selection.Block s.anchor s.head ∷ []

-- ---- an edit's numbers: what the kind does not use is 0

abbrev pub at_ends : ℕ → Position → Position → Numbers
at_ends k p q = record { kind = k; start = p; end = q; count = 0 }

abbrev pub at_place : ℕ → Position → Numbers
at_place k p = at_ends k p (at 0 0)

abbrev pub at_row : ℕ → Row → ℕ → Numbers
at_row k r n = record { kind = k; start = at r.0 0; end = at 0 0; count = n }

abbrev pub range_kind : MotionKind → ℕ
range_kind Char = 2
range_kind Lines = 3
range_kind Block = 4

abbrev pub numbers_of : Edit → Numbers
numbers_of (InsertChar p) = at_place 0 p
numbers_of (InsertStr p) = at_place 1 p
numbers_of (DeleteRange p q k) = at_ends (range_kind k) p q
numbers_of (JoinLines r n false) = at_row 5 r n
numbers_of (JoinLines r n true) = at_row 6 r n
numbers_of (SplitLines r) = at_row 7 r 0
numbers_of (Replace p q) = at_ends 8 p q
numbers_of (InsertBlock p) = at_place 9 p
numbers_of (DeleteBlockChunks p) = at_place 10 p
