-- What a run prints has a line.
use mathlib.Core.Path.{◌≡◌, refl}
use mathlib.Core.Bool.{true, ◌&&◌}
use mathlib.Core.List.{List, []}
use Prim.Native.Nat.{ℕ, ◌≤◌, min}
use native.Mathlib.Omega.{arith}
use borrow.Author.Tests.{le-leb}
use lib.Dec.{T, leb, leb→le}
use lib.ListN.{length, replicate, length-take}
use Rattle.promise.proofs.Bools.{T_true, T-both, T-left, T-right}
use Rattle.utf8.specs.Reading.{all_scalar}
use Rattle.utf8.proofs.Writings.{writing-len}
use Rattle.text.specs.Text.{admissible, all, text_ok}
use Rattle.text.proofs.Alls.{admitted_scalars}
use Rattle.text.specs.declared.Position.{Position}
use Rattle.edit.specs.declared.View.{View}
use Rattle.edit.specs.declared.MotionKind.TheVariants.{Char, Line as Lines, Block}
use Rattle.edit.specs.declared.Edit.{Edit}
use Rattle.edit.specs.declared.Edit.TheVariants.{InsertChar, InsertStr, DeleteRange, JoinLines, SplitLines, Replace, InsertBlock, DeleteBlockChunks}
use Rattle.edit.specs.Edits.{Whole, corner, height, breadth, range_deleted, edited_by}
use Rattle.edit.specs.Refusals.{small, small_position, small_range, small_ok, few, few_ok}
use Rattle.edit.specs.Call.{Lent, text_of, result_of, room_of}
use Rattle.edit.proofs.Blocks.{small-both}
use Rattle.edit.proofs.Fits.{inverse_fits}
use Rattle.edit.proofs.Workers.{Fits, Passed, accepted}
use Rattle.hexline.specs.Digits.{hexed}
use Rattle.hexline.proofs.Theorems.{two_digits}
use Rattle.frame.specs.Format.{Frame, text, mark, edit, frame_bytes, has_frame, edit_chars, frame_chars}
use Rattle.frame.specs.Writes.{line_of}
use Rattle.frame.specs.Theorems.{used_of, word, word_edit, words}
use Rattle.frame.specs.Inverses.{HasLine, InversesHaveLines, TextsHaveLines, MarksHaveLines}
use Rattle.frame.proofs.ByteCounts.{edit_len}
use Rattle.frame.proofs.Compact.{Compact, inverse_insert, inverse_chars, inverse_lines, inverse_replace, inverse_join, inverse_split, inverse_block, inverse_chunks}

-- ---- the inverse of an accepted edit is compact

corner-small : (p q : Position) → T (small_position p) → T (small_position q) → T (small_position (corner p q))
corner-small p q h k =
    let a = small-both p h in
    let b = small-both q k in
    rw (le-leb (min p.row.0 q.row.0) 1_000_000 (omega arith), le-leb (min p.col.0 q.col.0) 1_000_000 (omega arith)) tt

module _ (v : View) (l : Lent) (brief : length l.buffer ≤ 4_096) where
  abbrev t : List ℕ
  t = text_of v l

  text-brief : length t ≤ 4_096
  text-brief = omega (arith, length-take v.used l.buffer)

  text-good : {e : Edit} → Passed v e l → T (all admissible t)
  unfolding text_ok
  text-good h = T-right (leb v.used (length l.buffer) && leb v.used 16_384) (all admissible t) h.textual

  compact : (e : Edit) → Passed v e l → Fits (room_of l) (result_of v e l) → Compact (result_of v e l).inverse
  unfolding result_of edited_by range_deleted small_ok small_range few_ok
  compact (InsertChar p) h f = inverse_insert t text-brief p l.payload f.limit
  compact (InsertStr p) h f = inverse_insert t text-brief p l.payload f.limit
  compact (DeleteRange p q Char) h f = inverse_chars t text-brief (text-good h) p q (T-left (small_position p) (small_position q) h.smalls) (T-right (small_position p) (small_position q) h.smalls)
  compact (DeleteRange p q Lines) h f = inverse_lines t text-brief (text-good h) p q
  compact (DeleteRange p q Block) h f =
      inverse_chunks t text-brief (text-good h) (corner p q) (replicate (height p q) (breadth p q)) []
      (corner-small p q (T-left (small_position p) (small_position q) h.smalls) (T-right (small_position p) (small_position q) h.smalls))
  compact (JoinLines r n b) h f = inverse_join t text-brief r.0 n b f.limit
  compact (SplitLines r) h f = inverse_split t text-brief r.0 l.first l.second (leb→le (length l.first) 256 (T-left (few l.first) (few l.second) h.fews))
  compact (Replace p q) h f = inverse_replace t text-brief (text-good h) p q l.payload f.limit
  compact (InsertBlock p) h f = inverse_block t text-brief p l.payload l.first (T-left (small_position p) (all small l.first) h.smalls) (T-right (small_position p) (all small l.first) h.smalls)
  compact (DeleteBlockChunks p) h f =
      inverse_chunks t text-brief (text-good h) p l.first l.second (T-left (small_position p) (all small l.first) (T-left (small_position p && all small l.first) (all small l.second) h.smalls))

-- ---- lines

used_scalars : (e : Edit) (x : List ℕ) → T (all_scalar x) → T (all_scalar (edit_chars e x))
unfolding edit_chars all_scalar
used_scalars (InsertChar p) x h = tt
used_scalars (InsertStr p) x h = h
used_scalars (DeleteRange p q k) x h = tt
used_scalars (JoinLines r n b) x h = tt
used_scalars (SplitLines r) x h = tt
used_scalars (Replace p q) x h = h
used_scalars (InsertBlock p) x h = h
used_scalars (DeleteBlockChunks p) x h = tt

has-line : (f : Frame) → T (has_frame f) → T (all_scalar (frame_chars f)) → length (frame_bytes f) ≤ 18_432 → HasLine f
unfolding line_of
has-line f h k n =
    rw (T_true (has_frame f) h, T_true (all_scalar (frame_chars f)) k, le-leb (length (hexed (frame_bytes f))) 36_864 (omega (arith, two_digits (frame_bytes f))))

compact_line : (w : Whole ℕ) → Compact w → length w.first ≤ 256 → HasLine (edit w) × (words (edit w) ≡ true) × (used_of (edit w) ≡ edit w)
unfolding has_frame frame_chars frame_bytes words
compact_line w c n = (
  has-line (edit w) c.formed (used_scalars w.edit w.payload (admitted_scalars w.payload c.good)) (edit_len w.edit w.payload w.first w.second c.brief n),
  T_true (word_edit w.edit && all word w.first && all word w.second) (T-both (word_edit w.edit && all word w.first) (all word w.second) (T-both (word_edit w.edit) (all word w.first) c.number c.firsts) c.seconds),
  c.used,
)

pub inverses-have_lines : InversesHaveLines
unfolding result_of
inverses-have_lines v e l a h b =
    let p = accepted v e l a h in
    compact_line (result_of v e l).inverse (compact v l b e p.0 p.1) (inverse_fits (text_of v l) e l.payload l.first l.second p.0.fews).1

pub texts-have_lines : TextsHaveLines
unfolding has_frame frame_chars frame_bytes words
texts-have_lines cs h n = (has-line (text cs) tt (admitted_scalars cs (rw h tt)) (omega (arith, writing-len cs)), refl)

pub marks_have_lines : MarksHaveLines
unfolding has_frame frame_chars frame_bytes all_scalar
marks_have_lines s = has-line (mark s) tt tt (omega arith)
