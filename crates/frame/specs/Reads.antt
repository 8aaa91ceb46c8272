-- A line read: its frame, or 10, or 5. "A line is judged for form (10), then UTF-8 (5, offset not printed)"
use mathlib.Core.List.{List, [], ◌∷◌, map, flatten}
use Rattle.std.specs.Prelude.{ℕ, ◌+◌, length}
use Rattle.promise.specs.Paper.{Paper, done, refused}
use Rattle.utf8.specs.Reading.{reading, scalars, bad_at}
use Rattle.edit.specs.declared.Edit.{Edit}
use Rattle.edit.specs.declared.Edit.TheVariants.{InsertChar, InsertStr, DeleteRange, JoinLines, SplitLines, Replace, InsertBlock, DeleteBlockChunks}
use Rattle.edit.specs.Edits.{whole}
use Rattle.frame.specs.Format.{Frame}
use Rattle.frame.specs.Format as format
use Rattle.frame.specs.Forms.{Form, malformed, text, mark, edit, line_form}

-- the characters of some strings of UTF-8, or the offset of the first bad sequence: "chunks one by one". The first string stands at
-- offset `at`, and each further one behind its own length.
pub data Contents : Type 0 where
  chars : List (List ℕ) → Contents
  bad_from : ℕ → Contents

unfoldable pub ahead : List ℕ → Contents → Contents
ahead cs (chars xs) = chars (cs ∷ xs)
ahead cs (bad_from k) = bad_from k

unfoldable pub contents : ℕ → List (List ℕ) → Contents
contents at [] = chars []
contents at (k ∷ ks) = elim (reading k) [ scalars cs ↦ ahead cs (contents (at + length k + 4) ks) | bad_at j ↦ bad_from (at + j) ]

-- a block's first list has the lengths of its chunks, in characters
unfoldable pub first_list : Edit → List (List ℕ) → List ℕ → List ℕ
first_list (InsertChar p) xs f = f
first_list (InsertStr p) xs f = f
first_list (DeleteRange p q k) xs f = f
first_list (JoinLines r n b) xs f = f
first_list (SplitLines r) xs f = f
first_list (Replace p q) xs f = f
first_list (InsertBlock p) xs f = map length xs
first_list (DeleteBlockChunks p) xs f = f

unfoldable pub text_of : Contents → Paper Frame
text_of (chars xs) = done (format.text (flatten xs))
text_of (bad_from k) = refused 5 k

unfoldable pub edit_of : Edit → List ℕ → List ℕ → Contents → Paper Frame
edit_of e f s (chars xs) = done (format.edit (whole e (flatten xs) (first_list e xs f) s))
edit_of e f s (bad_from k) = refused 5 k

unfoldable pub read_form : Form → Paper Frame
read_form malformed = refused 10 0
read_form (text s) = text_of (contents 1 (s ∷ []))
read_form (mark m) = done (format.mark m)
read_form (edit e at ks f s) = edit_of e f s (contents at ks)

-- the whole line
abbrev pub frame_read : List ℕ → Paper Frame
frame_read l = read_form (line_form l)
