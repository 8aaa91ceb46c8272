-- A frame's bytes, read: first its form, then the frame.
use mathlib.Core.Path.{◌≡◌, refl, ap, ◌∙◌}
use mathlib.Core.Bool.{Bool, true, false}
use mathlib.Core.List.{List, [], ◌∷◌, ◌++◌, map, flatten}
use Prim.Native.Nat.{ℕ, ◌-◌, ◌%◌}
use native.Mathlib.Omega.{arith}
use borrow.Author.Tests.{eqb-true, le-leb, eq-eqb}
use lib.Dec.{leb, eqb}
use lib.ListN.{length}
use Rattle.promise.specs.Paper.{done}
use Rattle.promise.proofs.Bools.{both, both_true}
use Rattle.utf8.specs.Reading.{all_scalar, writing}
use Rattle.text.specs.declared.Position.{Position}
use Rattle.text.specs.declared.Row.{Row}
use Rattle.text.specs.Text.{all}
use Rattle.edit.specs.declared.MotionKind.{MotionKind}
use Rattle.edit.specs.declared.MotionKind.TheVariants.{Char, Line, Block}
use Rattle.edit.specs.declared.Edit.{Edit}
use Rattle.edit.specs.declared.Edit.TheVariants.{InsertChar, InsertStr, DeleteRange, JoinLines, SplitLines, Replace, InsertBlock, DeleteBlockChunks}
use Rattle.edit.specs.Edits.{whole, pieces}
use Rattle.edit.specs.Refusals.{sum}
use Rattle.edit.proofs.Blocks.{pieces-lengths, flatten_pieces}
use Rattle.select.specs.declared.Sel.{Sel}
use Rattle.frame.specs.Numbers.{number, position, number_in}
use Rattle.frame.specs.Format.{Frame, kind_byte, flag_byte, column_bytes, width_bytes, chunk_bytes, edit_bytes, frame_bytes, has_bytes, has_frame, edit_chars, frame_chars}
use Rattle.frame.specs.Format as format
use Rattle.frame.specs.Forms.{text, mark, edit, plain, mark_form, insert_form, kind_form, delete_form, join_form, columns_in, flags_in, flagged, split_form, replace_form, cut, strings_in, block_of, block_form, widths_in, pads_in, chunks_form, form_by, form_of}
use Rattle.frame.specs.Reads.{first_list, text_of, edit_of, read_form}
use Rattle.frame.specs.Theorems.{first_used, second_used, used_of}
use Rattle.frame.proofs.RoundNumbers.{number-joins}
use Rattle.frame.proofs.RoundItems.{columns-long, columns-read, flags_read, widths_long, widths_read, pads_read}
use Rattle.frame.proofs.RoundStrings.{one-flat, strings_read, contents-read}

-- ---- the form of each kind's bytes

mark_form_lem : (s : Sel) → mark_form (0x02 ∷ (position s.anchor ++ position s.head)) ≡ mark s
unfolding mark_form number_in
mark_form_lem s = rw (number-joins s.anchor.row.0, number-joins s.anchor.col.0, number-joins s.head.row.0, number-joins s.head.col.0)

insert-form : (p : Position) (t : List ℕ) → insert_form (0x10 ∷ (position p ++ t)) ≡ edit (InsertStr p) 9 (t ∷ []) [] []
unfolding insert_form number_in
insert-form p t = rw (le-leb 9 (length (0x10 ∷ (position p ++ t))) (omega arith), number-joins p.row.0, number-joins p.col.0)

kind_form_lem : (p q : Position) (k : MotionKind) → kind_form (kind_byte k) p q ≡ plain (DeleteRange p q k)
unfolding kind_form
kind_form_lem p q Char = refl
kind_form_lem p q Line = refl
kind_form_lem p q Block = refl

delete_form_lem : (p q : Position) (k : MotionKind) → delete_form (0x11 ∷ kind_byte k ∷ (position p ++ position q)) ≡ plain (DeleteRange p q k)
unfolding delete_form number_in
delete_form_lem p q k = rw (number-joins p.row.0, number-joins p.col.0, number-joins q.row.0, number-joins q.col.0) (kind_form_lem p q k)

join-form : (r : Row) (n : ℕ) (b : Bool) → join_form (0x12 ∷ (number r.0 ++ (number n ++ (flag_byte b ∷ [])))) ≡ plain (JoinLines r n b)
unfolding join_form number_in
join-form r n true = rw (number-joins r.0, number-joins n)
join-form r n false = rw (number-joins r.0, number-joins n)

split-form : (r : Row) (t : List ℕ) → flagged t ≡ true → split_form (0x13 ∷ (number r.0 ++ t)) ≡ edit (SplitLines r) 0 [] (columns_in t) (flags_in t)
unfolding split_form number_in
split-form r t e = rw (le-leb 5 (length (0x13 ∷ (number r.0 ++ t))) (omega arith), e, number-joins r.0)

replace_form_lem : (p q : Position) (t : List ℕ) → replace_form (0x14 ∷ (position p ++ (position q ++ t))) ≡ edit (Replace p q) 17 (t ∷ []) [] []
unfolding replace_form number_in
replace_form_lem p q t =
    rw (le-leb 17 (length (0x14 ∷ (position p ++ (position q ++ t)))) (omega arith), number-joins p.row.0, number-joins p.col.0, number-joins q.row.0, number-joins q.col.0)

block_form_lem : (p : Position) (t : List ℕ) (ks : List (List ℕ)) → strings_in t ≡ cut ks → block_form (0x15 ∷ (position p ++ t)) ≡ edit (InsertBlock p) 13 ks [] []
unfolding block_form block_of number_in
block_form_lem p t ks e = rw (le-leb 9 (length (0x15 ∷ (position p ++ t))) (omega arith), number-joins p.row.0, number-joins p.col.0, e)

chunks_form_lem : (p : Position) (t : List ℕ) → length t % 8 ≡ 0 → chunks_form (0x16 ∷ (position p ++ t)) ≡ edit (DeleteBlockChunks p) 0 [] (widths_in t) (pads_in t)
unfolding chunks_form number_in
chunks_form_lem p t e =
    let b : List ℕ = 0x16 ∷ (position p ++ t) in
    rw (le-leb 9 (length b) (omega arith), eq-eqb ((length b - 9) % 8) 0 (omega arith), number-joins p.row.0, number-joins p.col.0)

columns-flagged : (cs fs : List ℕ) → length cs ≡ length fs → all (λ b. leb b 1) fs ≡ true → flagged (column_bytes cs fs) ≡ true
unfolding flagged
columns-flagged cs fs e g = both_true (eq-eqb (length (column_bytes cs fs) % 5) 0 (omega (arith, columns-long cs fs))) (rw (flags_read cs fs e) g)

-- ---- the frame

one-scalar : (x : List ℕ) → all_scalar x ≡ true → all_scalar (flatten (x ∷ [])) ≡ true
one-scalar x e = ap all_scalar (one-flat x) ∙ e

text-read : (x : List ℕ) → all_scalar x ≡ true → read_form (text (writing x)) ≡ done (format.text x)
unfolding read_form text_of
text-read x e = rw (contents-read 1 (x ∷ []) (one-scalar x e), one-flat x)

module _ (e : Edit) (at : ℕ) (f s : List ℕ) where
  many_read : (xs : List (List ℕ)) → all_scalar (flatten xs) ≡ true → read_form (edit e at (map writing xs) f s) ≡ done (format.edit (whole e (flatten xs) (first_list e xs f) s))
  unfolding read_form edit_of
  many_read xs a = rw (contents-read at xs a)

  one-read : (x : List ℕ) → all_scalar x ≡ true → read_form (edit e at (writing x ∷ []) f s) ≡ done (format.edit (whole e x (first_list e (x ∷ []) f) s))
  one-read x a = many_read (x ∷ []) (one-scalar x a) ∙ rw (one-flat x)

  none_read : read_form (edit e at [] f s) ≡ done (format.edit (whole e [] (first_list e [] f) s))
  unfolding flatten all_scalar
  none_read = many_read [] refl

pub edit_read_lem : (e : Edit) (x f s : List ℕ) → has_bytes e x f s ≡ true → all_scalar (edit_chars e x) ≡ true
    → read_form (form_of (edit_bytes e x f s)) ≡ done (format.edit (whole e (edit_chars e x) (first_used e f) (second_used e s)))
unfolding edit_bytes has_bytes edit_chars first_used second_used form_by first_list
edit_read_lem (InsertChar p) x f s h e = let z : false ≡ true = h in cc
edit_read_lem (InsertStr p) x f s h e = rw (insert-form p (writing x)) (one-read (InsertStr p) 9 [] [] x e)
edit_read_lem (DeleteRange p q k) x f s h e = rw (delete_form_lem p q k) (none_read (DeleteRange p q k) 0 [] [])
edit_read_lem (JoinLines r n b) x f s h e = rw (join-form r n b) (none_read (JoinLines r n b) 0 [] [])
edit_read_lem (SplitLines r) x f s h e =
    let g = both (eqb (length f) (length s)) (all (λ b. leb b 1) s) h in
    let l = eqb-true (length f) (length s) g.0 in
    rw (split-form r (column_bytes f s) (columns-flagged f s l g.1), columns-read f s, flags_read f s l) (none_read (SplitLines r) 0 f s)
edit_read_lem (Replace p q) x f s h e = rw (replace_form_lem p q (writing x)) (one-read (Replace p q) 17 [] [] x e)
edit_read_lem (InsertBlock p) x f s h e =
    let l = eqb-true (sum f) (length x) h in
    let w = flatten_pieces f x (omega arith) in
    rw (block_form_lem p (chunk_bytes (pieces f x)) _ (strings_read (pieces f x))) (many_read (InsertBlock p) 13 [] [] (pieces f x) (ap all_scalar w ∙ e) ∙ rw (w, pieces-lengths f x (omega arith)))
edit_read_lem (DeleteBlockChunks p) x f s h e =
    let l = eqb-true (length f) (length s) h in
    rw (chunks_form_lem p (width_bytes f s) (omega (arith, widths_long f s)), widths_read f s, pads_read f s l) (none_read (DeleteBlockChunks p) 0 f s)

pub frame_read_lem : (f : Frame) → has_frame f ≡ true → all_scalar (frame_chars f) ≡ true → read_form (form_of (frame_bytes f)) ≡ done (used_of f)
unfolding has_frame frame_chars frame_bytes used_of form_by read_form
frame_read_lem (format.text cs) h e = text-read cs e
frame_read_lem (format.mark s) h e = rw (mark_form_lem s)
frame_read_lem (format.edit w) h e = edit_read_lem w.edit w.payload w.first w.second h e
