-- What the reader answers, and leaves in the slices lent for a frame's payload and lists.
use Rattle.std.specs.Prelude.{cond, ◌&&◌, ◌≡◌, ℕ, ◌≤◌, leb, length}
use mathlib.Core.List.{List, [], flatten}
use Rattle.std.specs.Prelude.{Result, Ok, Err}
use Rattle.utf8.specs.declared.BadUtf8.{BadUtf8}
use Rattle.edit.specs.declared.Refusal.{Refusal}
use Rattle.promise.specs.Paper.{Paper, done, refused}
use Rattle.promise.specs.Slices.{over}
use Rattle.edit.specs.declared.Edit.{Edit}
use Rattle.edit.specs.Call.{number_of, offset_of}
use Rattle.select.specs.declared.Sel.{Sel}
use Rattle.utf8.specs.Calls.{Outcome, outcome, stored}
use Rattle.frame.specs.Format.{Frame}
use Rattle.frame.specs.Format as format
use Rattle.frame.specs.Forms.{Cut, broken, cut}
use Rattle.frame.specs.Reads.{Contents, chars, bad_from}
use Rattle.reader.specs.declared.FrameRead.{FrameRead}
use Rattle.reader.specs.declared.FrameRead.TheVariants as as_read
use Rattle.reader.specs.declared.Tally.{Tally}

-- a frame without what stands in the slices: how much of each it takes
pub data Read : Type 0 where
  text : ℕ → Read
  mark : Sel → Read
  edit : Edit → ℕ → ℕ → ℕ → Read

abbrev pub read_of : FrameRead → Read
read_of (as_read.Text n) = text n
read_of (as_read.Mark m) = mark m
read_of (as_read.Edit e x f s) = edit e x f s

abbrev pub paper_read : Result FrameRead Refusal → Paper Read
paper_read (Ok g) = done (read_of g)
paper_read (Err r) = refused (number_of r) (offset_of r)

-- the answer, and the lent slices at exit
pub record Filled : Type 0 where
  pub answer : Paper Read
  pub payload : List ℕ
  pub first : List ℕ
  pub second : List ℕ

abbrev pub filled : Paper Read → List ℕ → List ℕ → List ℕ → Filled
filled a x f s = record { answer = a; payload = x; first = f; second = s }

-- 8: "decoded or encoded output too long for its slice"
unfoldable pub frame_into : Frame → List ℕ → List ℕ → List ℕ → Filled
frame_into (format.text cs) x f s = cond (leb (length cs) (length x)) (filled (done (text (length cs))) (over cs x) f s) (filled (refused 8 0) x f s)
frame_into (format.mark m) x f s = filled (done (mark m)) x f s
frame_into (format.edit w) x f s =
    cond (leb (length w.payload) (length x) && leb (length w.first) (length f) && leb (length w.second) (length s))
    (filled (done (edit w.edit (length w.payload) (length w.first) (length w.second))) (over w.payload x) (over w.first f) (over w.second s))
    (filled (refused 8 0) x f s)

unfoldable pub read_into : Paper Frame → List ℕ → List ℕ → List ℕ → Filled
read_into (done g) x f s = frame_into g x f s
read_into (refused n k) x f s = filled (refused n k) x f s

-- What the workers below the calls speak of. A frame's characters go to one slice: 5, then 8.
unfoldable pub chars_into : Contents → List ℕ → Outcome
chars_into (chars xs) out = stored (flatten xs) out
chars_into (bad_from k) out = outcome (refused 5 k) out

-- the strings of a block that is cut, and their characters where all are well formed
unfoldable pub strings_of : Cut → List (List ℕ)
strings_of broken = []
strings_of (cut ks) = ks

unfoldable pub chars_of : Contents → List (List ℕ)
chars_of (chars xs) = xs
chars_of (bad_from k) = []

-- how many strings and how many characters
abbrev pub paper_tally : Result Tally BadUtf8 → Paper (ℕ × ℕ)
paper_tally (Ok t) = done (t.chunks, t.chars)
paper_tally (Err e) = refused 5 e.0.0

unfoldable pub tallied : Contents → Paper (ℕ × ℕ)
tallied (chars xs) = done (length xs, length (flatten xs))
tallied (bad_from k) = refused 5 k

-- all are well formed, and fit a payload of n places and a list of m
abbrev pub WellFormed : Contents → ℕ → ℕ → Type 0
WellFormed c n m = (c ≡ chars (chars_of c)) × (length (flatten (chars_of c)) ≤ n) × (length (chars_of c) ≤ m)
