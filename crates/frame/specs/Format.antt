-- What each frame is written as. Document 01's words on each kind stand above it.
use Rattle.std.specs.Prelude.{Bool, true, false, cond, ◌&&◌, List, [], ◌∷◌, ◌++◌, ℕ, leb, eqb, length, drop, get_or}
use Rattle.utf8.specs.Reading.{writing}
use Rattle.text.specs.Text.{all}
use Rattle.edit.specs.declared.MotionKind.{MotionKind}
use Rattle.edit.specs.declared.MotionKind.TheVariants.{Char, Line, Block}
use Rattle.edit.specs.declared.Edit.{Edit}
use Rattle.edit.specs.declared.Edit.TheVariants.{InsertChar, InsertStr, DeleteRange, JoinLines, SplitLines, Replace, InsertBlock, DeleteBlockChunks}
use Rattle.edit.specs.Edits.{Whole, pieces}
use Rattle.edit.specs.Refusals.{sum}
use Rattle.select.specs.declared.Sel.{Sel}
use Rattle.frame.specs.Numbers.{number, position}

-- a text by its characters, a mark, or an edit with its payload and lists
pub data Frame : Type 0 where
  text : List ℕ → Frame
  mark : Sel → Frame
  edit : Whole ℕ → Frame

-- "kind byte (0 Char, 1 Line, 2 Block)"
abbrev pub kind_byte : MotionKind → ℕ
kind_byte Char = 0
kind_byte Line = 1
kind_byte Block = 2

-- "Flag bytes are 0 or 1."
abbrev pub flag_byte : Bool → ℕ
flag_byte b = cond b 1 0

-- "column and flag byte each"
unfoldable pub column_bytes : List ℕ → List ℕ → List ℕ
column_bytes [] fs = []
column_bytes (c ∷ cs) fs = number c ++ (get_or fs 0 0 ∷ column_bytes cs (drop 1 fs))

-- "width and pad each"
unfoldable pub width_bytes : List ℕ → List ℕ → List ℕ
width_bytes [] ds = []
width_bytes (w ∷ ws) ds = number w ++ (number (get_or ds 0 0) ++ width_bytes ws (drop 1 ds))

-- "byte length and UTF-8 each"
unfoldable pub chunk_bytes : List (List ℕ) → List ℕ
chunk_bytes [] = []
chunk_bytes (k ∷ ks) = number (length (writing k)) ++ (writing k ++ chunk_bytes ks)

-- The bytes of an edit's frame. "InsertChar has no frame."
unfoldable pub edit_bytes : Edit → List ℕ → List ℕ → List ℕ → List ℕ
edit_bytes (InsertChar p) x f s = []
-- "10 InsertStr: row, column, UTF-8"
edit_bytes (InsertStr p) x f s = 0x10 ∷ (position p ++ writing x)
-- "11 delete: kind byte .., two positions"
edit_bytes (DeleteRange p q k) x f s = 0x11 ∷ kind_byte k ∷ (position p ++ position q)
-- "12 join: row, count, flag byte"
edit_bytes (JoinLines r n b) x f s = 0x12 ∷ (number r.0 ++ (number n ++ (flag_byte b ∷ [])))
-- "13 split: row, then column and flag byte each"
edit_bytes (SplitLines r) x f s = 0x13 ∷ (number r.0 ++ column_bytes f s)
-- "14 replace: two positions, UTF-8"
edit_bytes (Replace p q) x f s = 0x14 ∷ (position p ++ (position q ++ writing x))
-- "15 block: position, then byte length and UTF-8 each"
edit_bytes (InsertBlock p) x f s = 0x15 ∷ (position p ++ chunk_bytes (pieces f x))
-- "16 chunks: position, then width and pad each"
edit_bytes (DeleteBlockChunks p) x f s = 0x16 ∷ (position p ++ width_bytes f s)

-- "01 UTF-8 text", "02 mark: anchor row, column, head row, column"
unfoldable pub frame_bytes : Frame → List ℕ
frame_bytes (text cs) = 0x01 ∷ writing cs
frame_bytes (mark s) = 0x02 ∷ (position s.anchor ++ position s.head)
frame_bytes (edit w) = edit_bytes w.edit w.payload w.first w.second

-- Which edits have a frame: a split's flags are 0 or 1 and as many as its columns, a block's lengths sum to its payload, and there are
-- as many pads as widths.
unfoldable pub has_bytes : Edit → List ℕ → List ℕ → List ℕ → Bool
has_bytes (InsertChar p) x f s = false
has_bytes (InsertStr p) x f s = true
has_bytes (DeleteRange p q k) x f s = true
has_bytes (JoinLines r n b) x f s = true
has_bytes (SplitLines r) x f s = eqb (length f) (length s) && all (λ b. leb b 1) s
has_bytes (Replace p q) x f s = true
has_bytes (InsertBlock p) x f s = eqb (sum f) (length x)
has_bytes (DeleteBlockChunks p) x f s = eqb (length f) (length s)

unfoldable pub has_frame : Frame → Bool
has_frame (text cs) = true
has_frame (mark s) = true
has_frame (edit w) = has_bytes w.edit w.payload w.first w.second

-- its characters, as far as its kind writes them
unfoldable pub edit_chars : Edit → List ℕ → List ℕ
edit_chars (InsertChar p) x = []
edit_chars (InsertStr p) x = x
edit_chars (DeleteRange p q k) x = []
edit_chars (JoinLines r n b) x = []
edit_chars (SplitLines r) x = []
edit_chars (Replace p q) x = x
edit_chars (InsertBlock p) x = x
edit_chars (DeleteBlockChunks p) x = []

unfoldable pub frame_chars : Frame → List ℕ
frame_chars (text cs) = cs
frame_chars (mark s) = []
frame_chars (edit w) = edit_chars w.edit w.payload
