-- What is proved of frames, beside that the code meets its promises. The proofs stand in proofs/Theorems.antt.
use Rattle.std.specs.Prelude.{Bool, true, ◌&&◌, List, [], ◌≡◌, ℕ, ltb}
use Rattle.promise.specs.Paper.{done}
use Rattle.text.specs.declared.Position.{Position}
use Rattle.text.specs.Text.{all}
use Rattle.edit.specs.declared.Edit.{Edit}
use Rattle.edit.specs.declared.Edit.TheVariants.{InsertChar, InsertStr, DeleteRange, JoinLines, SplitLines, Replace, InsertBlock, DeleteBlockChunks}
use Rattle.edit.specs.Edits.{whole}
use Rattle.frame.specs.Format.{Frame, text, mark, edit, edit_chars}
use Rattle.frame.specs.Reads.{frame_read}
use Rattle.frame.specs.Writes.{line_of}

-- a frame without the payload and the lists that its kind does not use
unfoldable pub first_used : Edit → List ℕ → List ℕ
first_used (InsertChar p) f = []
first_used (InsertStr p) f = []
first_used (DeleteRange p q k) f = []
first_used (JoinLines r n b) f = []
first_used (SplitLines r) f = f
first_used (Replace p q) f = []
first_used (InsertBlock p) f = f
first_used (DeleteBlockChunks p) f = f

unfoldable pub second_used : Edit → List ℕ → List ℕ
second_used (InsertChar p) s = []
second_used (InsertStr p) s = []
second_used (DeleteRange p q k) s = []
second_used (JoinLines r n b) s = []
second_used (SplitLines r) s = s
second_used (Replace p q) s = []
second_used (InsertBlock p) s = []
second_used (DeleteBlockChunks p) s = s

unfoldable pub used_of : Frame → Frame
used_of (text cs) = text cs
used_of (mark s) = mark s
used_of (edit w) = edit (whole w.edit (edit_chars w.edit w.payload) (first_used w.edit w.first) (second_used w.edit w.second))

-- every number of a frame is one of 32 bits
abbrev pub word : ℕ → Bool
word n = ltb n 4_294_967_296

abbrev pub word_position : Position → Bool
word_position p = word p.row.0 && word p.col.0

unfoldable pub word_edit : Edit → Bool
word_edit (InsertChar p) = word_position p
word_edit (InsertStr p) = word_position p
word_edit (DeleteRange p q k) = word_position p && word_position q
word_edit (JoinLines r n b) = word r.0 && word n
word_edit (SplitLines r) = word r.0
word_edit (Replace p q) = word_position p && word_position q
word_edit (InsertBlock p) = word_position p
word_edit (DeleteBlockChunks p) = word_position p

unfoldable pub words : Frame → Bool
words (text cs) = true
words (mark s) = word_position s.anchor && word_position s.head
words (edit w) = word_edit w.edit && all word w.first && all word w.second

-- What is written is read back as the same frame.
abbrev pub ReadsWritten : Type 0
ReadsWritten = (f : Frame) (l : List ℕ) → words f ≡ true → line_of f ≡ done l → frame_read l ≡ done (used_of f)

-- Two different frames are never written alike.
abbrev pub NeverAlike : Type 0
NeverAlike = (f g : Frame) (l : List ℕ) → words f ≡ true → words g ≡ true → line_of f ≡ done l → line_of g ≡ done l → used_of f ≡ used_of g

-- What is read is written as the same line.
abbrev pub WritesRead : Type 0
WritesRead = (f : Frame) (l : List ℕ) → frame_read l ≡ done f → line_of f ≡ done l
