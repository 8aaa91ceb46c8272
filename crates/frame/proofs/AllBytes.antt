-- What a frame of 32-bit numbers is written as is bytes.
use mathlib.Core.Path.{◌≡◌, ap, ◌∙◌}
use mathlib.Core.Bool.{Bool, true, false, ◌&&◌}
use mathlib.Core.List.{List, [], ◌++◌}
use Prim.Native.Nat.{ℕ, ◌<◌}
use native.Mathlib.Omega.{arith}
use borrow.Author.Tests.{eqb-true}
use lib.Dec.{leb, eqb}
use lib.ListN.{length}
use Rattle.promise.proofs.Bools.{both}
use Rattle.utf8.specs.Reading.{all_scalar, writing}
use Rattle.text.specs.declared.Position.{Position}
use Rattle.text.specs.Text.{all}
use Rattle.edit.specs.declared.MotionKind.{MotionKind}
use Rattle.edit.specs.declared.MotionKind.TheVariants.{Char, Line, Block}
use Rattle.edit.specs.declared.Edit.{Edit}
use Rattle.edit.specs.declared.Edit.TheVariants.{InsertChar, InsertStr, DeleteRange, JoinLines, SplitLines, Replace, InsertBlock, DeleteBlockChunks}
use Rattle.edit.specs.Edits.{pieces}
use Rattle.edit.specs.Refusals.{sum}
use Rattle.edit.proofs.Blocks.{flatten_pieces}
use Rattle.hexline.specs.Theorems.{Bytes}
use Rattle.frame.specs.Numbers.{number, position}
use Rattle.frame.specs.Format.{Frame, text, mark, edit, kind_byte, flag_byte, column_bytes, width_bytes, chunk_bytes, edit_bytes, frame_bytes, has_bytes, has_frame, edit_chars, frame_chars}
use Rattle.frame.specs.Theorems.{word, word_position, word_edit, words}
use Rattle.frame.proofs.RoundNumbers.{bytes_nil, bytes_cons, word_bytes}
use Rattle.frame.proofs.RoundItems.{columns-bytes, widths_bytes}
use Rattle.frame.proofs.RoundStrings.{writing-bytes, chunks_bytes}

position-bytes : (p : Position) (t : List ℕ) → word_position p ≡ true → Bytes t → Bytes (position p ++ t)
position-bytes p t e b =
    let w = both (word p.row.0) (word p.col.0) e in
    word_bytes p.row.0 (number p.col.0 ++ t) w.0 (word_bytes p.col.0 t w.1 b)

kind_byte_lem : (k : MotionKind) → kind_byte k < 256
kind_byte_lem Char = omega arith
kind_byte_lem Line = omega arith
kind_byte_lem Block = omega arith

flag_byte_lem : (b : Bool) → flag_byte b < 256
flag_byte_lem true = omega arith
flag_byte_lem false = omega arith

edit_bytes_lem : (e : Edit) (x f s : List ℕ) → word_edit e ≡ true → all word f ≡ true → all word s ≡ true → has_bytes e x f s ≡ true → all_scalar (edit_chars e x) ≡ true
    → length (edit_bytes e x f s) < 4_294_967_296 → Bytes (edit_bytes e x f s)
unfolding word_edit has_bytes edit_chars edit_bytes
edit_bytes_lem (InsertChar p) x f s e u v h a l = bytes_nil
edit_bytes_lem (InsertStr p) x f s e u v h a l = bytes_cons 0x10 _ (omega arith) (position-bytes p (writing x) e (writing-bytes x a))
edit_bytes_lem (DeleteRange p q k) x f s e u v h a l =
    let w = both (word_position p) (word_position q) e in
    bytes_cons 0x11 _ (omega arith) (bytes_cons (kind_byte k) _ (kind_byte_lem k) (position-bytes p (position q) w.0 (position-bytes q [] w.1 bytes_nil)))
edit_bytes_lem (JoinLines r n b) x f s e u v h a l =
    let w = both (word r.0) (word n) e in
    bytes_cons 0x12 _ (omega arith) (word_bytes r.0 _ w.0 (word_bytes n _ w.1 (bytes_cons (flag_byte b) [] (flag_byte_lem b) bytes_nil)))
edit_bytes_lem (SplitLines r) x f s e u v h a l =
    let g = both (eqb (length f) (length s)) (all (λ b. leb b 1) s) h in
    bytes_cons 0x13 _ (omega arith) (word_bytes r.0 (column_bytes f s) e (columns-bytes f s u g.1))
edit_bytes_lem (Replace p q) x f s e u v h a l =
    let w = both (word_position p) (word_position q) e in
    bytes_cons 0x14 _ (omega arith) (position-bytes p (position q ++ writing x) w.0 (position-bytes q (writing x) w.1 (writing-bytes x a)))
edit_bytes_lem (InsertBlock p) x f s e u v h a l =
    let n = eqb-true (sum f) (length x) h in
    let c = ap all_scalar (flatten_pieces f x (omega arith)) ∙ a in
    bytes_cons 0x15 _ (omega arith) (position-bytes p (chunk_bytes (pieces f x)) e (chunks_bytes (pieces f x) c (omega arith)))
edit_bytes_lem (DeleteBlockChunks p) x f s e u v h a l = bytes_cons 0x16 _ (omega arith) (position-bytes p (width_bytes f s) e (widths_bytes f s u v))

pub frame_bytes_lem : (f : Frame) → words f ≡ true → has_frame f ≡ true → all_scalar (frame_chars f) ≡ true → length (frame_bytes f) < 4_294_967_296 → Bytes (frame_bytes f)
unfolding words has_frame frame_chars frame_bytes
frame_bytes_lem (text cs) e h a l = bytes_cons 0x01 _ (omega arith) (writing-bytes cs a)
frame_bytes_lem (mark s) e h a l =
    let w = both (word_position s.anchor) (word_position s.head) e in
    bytes_cons 0x02 _ (omega arith) (position-bytes s.anchor (position s.head) w.0 (position-bytes s.head [] w.1 bytes_nil))
frame_bytes_lem (edit w) e h a l =
    let u = both (word_edit w.edit && all word w.first) (all word w.second) e in
    let v = both (word_edit w.edit) (all word w.first) u.0 in
    edit_bytes_lem w.edit w.payload w.first w.second v.0 v.1 u.1 h a l
