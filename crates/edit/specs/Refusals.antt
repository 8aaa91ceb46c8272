-- When an edit is refused. Each test says what has to hold; the table's row is its contrary.
use Rattle.std.specs.Prelude.{Bool, true, not, ◌&&◌, ◌||◌, List, [], ◌∷◌, ℕ, ◌+◌, ◌-◌, min, max, leb, eqb, length, drop, get_or}
use Rattle.text.specs.declared.Position.{Position}
use Rattle.text.specs.Rows.{Line, line, lines, last_row}
use Rattle.text.specs.Text.{is_lf, admissible, all}
use Rattle.edit.specs.declared.MotionKind.{MotionKind}
use Rattle.edit.specs.declared.MotionKind.TheVariants.{Char, Line as Lines, Block}
use Rattle.edit.specs.declared.Edit.{Edit}
use Rattle.edit.specs.declared.Edit.TheVariants.{InsertChar, InsertStr, DeleteRange, JoinLines, SplitLines, Replace, InsertBlock, DeleteBlockChunks}
use Rattle.edit.specs.declared.Room.{Room}
use Rattle.edit.specs.Edits.{Whole, Made, split_row, height}

-- ---- characters

abbrev pub is_space : ℕ → Bool
is_space x = eqb x 32

abbrev pub spaces : Made ℕ
spaces = record { pad = 32; space = 32; break = 10 }

unfoldable pub sum : List ℕ → ℕ
sum [] = 0
sum (x ∷ xs) = x + sum xs

-- ---- 2 TooBig: "a number over 1,000,000". "Payload, numbers and lists that a kind doesn't use aren't read, nor are a Line
-- delete's columns."

abbrev pub small : ℕ → Bool
small n = leb n 1_000_000

abbrev pub small_position : Position → Bool
small_position p = small p.row.0 && small p.col.0

unfoldable pub small_range : Position → Position → MotionKind → Bool
small_range p q Char = small_position p && small_position q
small_range p q Lines = small p.row.0 && small q.row.0
small_range p q Block = small_position p && small_position q

unfoldable pub small_ok : Edit → List ℕ → List ℕ → Bool
small_ok (InsertChar p) f s = small_position p
small_ok (InsertStr p) f s = small_position p
small_ok (DeleteRange p q k) f s = small_range p q k
small_ok (JoinLines r n b) f s = small r.0 && small n
small_ok (SplitLines r) f s = small r.0 && all small f && all small s
small_ok (Replace p q) f s = small_position p && small_position q
small_ok (InsertBlock p) f s = small_position p && all small f
small_ok (DeleteBlockChunks p) f s = small_position p && all small f && all small s

-- ---- 3 TooMany: "Lists (chunks, widths, pads, columns, flags) have at most 256 items; so do the rows a block delete spans, and
-- the joins a join would make. A payload has at most 16,384 characters"

abbrev pub few : List ℕ → Bool
few l = leb (length l) 256

abbrev pub short : List ℕ → Bool
short x = leb (length x) 16_384

unfoldable pub few_rows : Position → Position → MotionKind → Bool
few_rows p q Char = true
few_rows p q Lines = true
few_rows p q Block = leb (height p q) 256

unfoldable pub few_ok : List ℕ → Edit → List ℕ → List ℕ → List ℕ → Bool
few_ok t (InsertChar p) x f s = short x
few_ok t (InsertStr p) x f s = short x
few_ok t (DeleteRange p q k) x f s = few_rows p q k
few_ok t (JoinLines r n b) x f s = leb (min (max n 1) (last_row is_lf t - min r.0 (last_row is_lf t))) 256
few_ok t (SplitLines r) x f s = few f && few s
few_ok t (Replace p q) x f s = short x
few_ok t (InsertBlock p) x f s = few f && short x
few_ok t (DeleteBlockChunks p) x f s = few f && few s

-- ---- 4 BadPayload: "inadmissible value; LF in a chunk; InsertBlock's chunk lengths not summing to the payload; InsertChar without
-- exactly one character"

unfoldable pub payload_ok : Edit → List ℕ → List ℕ → Bool
payload_ok (InsertChar p) x f = all admissible x && eqb (length x) 1
payload_ok (InsertStr p) x f = all admissible x
payload_ok (DeleteRange p q k) x f = true
payload_ok (JoinLines r n b) x f = true
payload_ok (SplitLines r) x f = true
payload_ok (Replace p q) x f = all admissible x
payload_ok (InsertBlock p) x f = all admissible x && all (λ c. not (is_lf c)) x && eqb (sum f) (length x)
payload_ok (DeleteBlockChunks p) x f = true

-- ---- 7 BeyondRow: "SplitLines, apply only: flag yes and column past the row's length at that step"

-- the column is in the first of these rows, or its flag is no
unfoldable pub within_first : ℕ → ℕ → List (Line ℕ) → Bool
within_first c f [] = true
within_first c f (r ∷ rs) = eqb f 0 || leb c (length r.body)

unfoldable pub within_all : Line ℕ → List ℕ → List ℕ → Bool
within_all r [] fs = true
within_all r (c ∷ cs) fs = within_first c (get_or fs 0 0) (split_row is_lf is_space spaces r cs (drop 1 fs)) && within_all r cs (drop 1 fs)

unfoldable pub within_ok : List ℕ → Edit → List ℕ → List ℕ → Bool
within_ok t (InsertChar p) f s = true
within_ok t (InsertStr p) f s = true
within_ok t (DeleteRange p q k) f s = true
within_ok t (JoinLines r n b) f s = true
within_ok t (SplitLines r) f s = within_all (get_or (lines is_lf t) (min r.0 (last_row is_lf t)) (line [] [])) f s
within_ok t (Replace p q) f s = true
within_ok t (InsertBlock p) f s = true
within_ok t (DeleteBlockChunks p) f s = true

-- ---- 8 NoRoom: "resulting text longer than its buffer or 16,384"; 9 NoRecord: "inverse longer than its lent slices"

unfoldable pub room_ok : Room → List ℕ → Bool
room_ok R u = leb (length u) R.buffer && short u

unfoldable pub record_ok : Room → Whole ℕ → Bool
record_ok R i = leb (length i.payload) R.payload && leb (length i.first) R.first && leb (length i.second) R.second

-- ---- what demand 3 asks of an edit

-- demand 3: "no touched row shorter than the left column"; document 01: "A touched row is one that exists."
unfoldable pub wide : ℕ → List (Line ℕ) → Bool
wide c [] = true
wide c (r ∷ rs) = leb c (length r.body) && wide c rs
