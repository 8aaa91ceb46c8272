-- The form of a line: which frame it is, with its UTF-8 still unread. Malformed are, beside a line that is not hexadecimal, "an unknown
-- first byte", "a flag or kind byte out of range; a length past the line's end; bytes left over" and an empty line.
use Rattle.std.specs.Prelude.{Bool, true, false, cond, ◌&&◌, List, [], ◌∷◌, ℕ, zero, suc, ◌+◌, ◌-◌, ◌/◌, ◌%◌, leb, eqb, length, take, drop, get_or}
use Rattle.text.specs.declared.Position.{Position}
use Rattle.text.specs.Text.{all}
use Rattle.edit.specs.declared.MotionKind.TheVariants.{Char, Line, Block}
use Rattle.edit.specs.declared.Edit.{Edit}
use Rattle.edit.specs.declared.Edit.TheVariants.{InsertStr, DeleteRange, JoinLines, SplitLines, Replace, InsertBlock, DeleteBlockChunks}
use Rattle.edit.specs.Edits.{row_at}
use Rattle.select.specs.declared.Sel.{Sel}
use Rattle.select.specs.Sels.{sel}
use Rattle.hexline.specs.Digits.{unhexed, line_ok}
use Rattle.frame.specs.declared.Head.{Head}
use Rattle.frame.specs.declared.Head.TheVariants as as_head
use Rattle.frame.specs.Numbers.{number_in, position_in, items}

-- A text with its UTF-8; a mark; an edit with the offset of its first string of UTF-8, its strings, and its two lists. A block's
-- strings have their lengths before them, and its first list comes with its characters.
pub data Form : Type 0 where
  malformed : Form
  text : List ℕ → Form
  mark : Sel → Form
  edit : Edit → ℕ → List (List ℕ) → List ℕ → List ℕ → Form

abbrev pub plain : Edit → Form
plain e = edit e 0 [] [] []

-- "02 mark: anchor row, column, head row, column"
unfoldable pub mark_form : List ℕ → Form
mark_form b = cond (eqb (length b) 17) (mark (sel (position_in b 1) (position_in b 9))) malformed

-- "10 InsertStr: row, column, UTF-8"
unfoldable pub insert_form : List ℕ → Form
insert_form b = cond (leb 9 (length b)) (edit (InsertStr (position_in b 1)) 9 (drop 9 b ∷ []) [] []) malformed

-- "11 delete: kind byte (0 Char, 1 Line, 2 Block), two positions"
unfoldable pub kind_form : ℕ → Position → Position → Form
kind_form k p q =
    cond (eqb k 0) (plain (DeleteRange p q Char)) (cond (eqb k 1) (plain (DeleteRange p q Line)) (cond (eqb k 2) (plain (DeleteRange p q Block)) malformed))

unfoldable pub delete_form : List ℕ → Form
delete_form b = cond (eqb (length b) 18) (kind_form (get_or b 1 0) (position_in b 2) (position_in b 10)) malformed

-- "12 join: row, count, flag byte"; "Flag bytes are 0 or 1."
unfoldable pub join_form : List ℕ → Form
join_form b =
    cond (eqb (length b) 10 && leb (get_or b 9 0) 1) (plain (JoinLines (row_at (number_in b 1)) (number_in b 5) (eqb (get_or b 9 0) 1))) malformed

-- "13 split: row, then column and flag byte each": of the bytes after the row
unfoldable pub columns_in : List ℕ → List ℕ
columns_in s = items 5 (length s / 5) (λ i. number_in i 0) s

unfoldable pub flags_in : List ℕ → List ℕ
flags_in s = items 5 (length s / 5) (λ i. get_or i 4 0) s

unfoldable pub flagged : List ℕ → Bool
flagged s = eqb (length s % 5) 0 && all (λ b. leb b 1) (flags_in s)

unfoldable pub split_form : List ℕ → Form
split_form b =
    cond (leb 5 (length b) && flagged (drop 5 b)) (edit (SplitLines (row_at (number_in b 1))) 0 [] (columns_in (drop 5 b)) (flags_in (drop 5 b))) malformed

-- "14 replace: two positions, UTF-8"
unfoldable pub replace_form : List ℕ → Form
replace_form b = cond (leb 17 (length b)) (edit (Replace (position_in b 1) (position_in b 9)) 17 (drop 17 b ∷ []) [] []) malformed

-- "15 block: position, then byte length and UTF-8 each": the strings of the bytes after the position, or a length past the end. No more
-- strings than bytes.
pub data Cut : Type 0 where
  broken : Cut
  cut : List (List ℕ) → Cut

unfoldable pub is_cut : Cut → Bool
is_cut broken = false
is_cut (cut ks) = true

unfoldable pub before : List ℕ → Cut → Cut
before k broken = broken
before k (cut ks) = cut (k ∷ ks)

unfoldable pub strings_from : ℕ → List ℕ → Cut
strings_from zero s = cut []
strings_from (suc n) s =
    let k = number_in s 0 in
    cond (eqb (length s) 0) (cut []) (cond (leb (4 + k) (length s)) (before (take k (drop 4 s)) (strings_from n (drop (4 + k) s))) broken)

abbrev pub strings_in : List ℕ → Cut
strings_in s = strings_from (length s) s

unfoldable pub block_of : Position → Cut → Form
block_of p broken = malformed
block_of p (cut ks) = edit (InsertBlock p) 13 ks [] []

unfoldable pub block_form : List ℕ → Form
block_form b = cond (leb 9 (length b)) (block_of (position_in b 1) (strings_in (drop 9 b))) malformed

-- "16 chunks: position, then width and pad each": of the bytes after the position
unfoldable pub widths_in : List ℕ → List ℕ
widths_in s = items 8 (length s / 8) (λ i. number_in i 0) s

unfoldable pub pads_in : List ℕ → List ℕ
pads_in s = items 8 (length s / 8) (λ i. number_in i 4) s

unfoldable pub chunks_form : List ℕ → Form
chunks_form b =
    cond (leb 9 (length b) && eqb ((length b - 9) % 8) 0) (edit (DeleteBlockChunks (position_in b 1)) 0 [] (widths_in (drop 9 b)) (pads_in (drop 9 b))) malformed

-- by the first byte; of an empty line there is none
unfoldable pub form_by : ℕ → List ℕ → Form
form_by k b =
    cond (eqb k 0x01) (text (drop 1 b))
    (cond (eqb k 0x02) (mark_form b)
    (cond (eqb k 0x10) (insert_form b)
    (cond (eqb k 0x11) (delete_form b)
    (cond (eqb k 0x12) (join_form b)
    (cond (eqb k 0x13) (split_form b)
    (cond (eqb k 0x14) (replace_form b)
    (cond (eqb k 0x15) (block_form b)
    (cond (eqb k 0x16) (chunks_form b) malformed))))))))

abbrev pub form_of : List ℕ → Form
form_of b = form_by (get_or b 0 0) b

-- the form of a line of digits
unfoldable pub line_form : List ℕ → Form
line_form l = cond (line_ok l) (form_of (unhexed l)) malformed

-- a form without its UTF-8 and its lists
unfoldable pub head_of : Form → Head
head_of malformed = as_head.Malformed
head_of (text s) = as_head.Text
head_of (mark s) = as_head.Mark s
head_of (edit e at ks f s) = as_head.Edit e
