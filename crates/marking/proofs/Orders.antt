-- An edit with its ends in order is the same edit.
use mathlib.Core.Path.{◌≡◌, refl}
use mathlib.Core.Bool.{Bool, true, false, cond, and_comm}
use mathlib.Core.List.{List}
use Prim.Native.Nat.{ℕ}
use native.Mathlib.Nat.{min_comm, max_comm}
use borrow.Author.Tests.{le-leb}
use Rattle.text.specs.declared.Position.{Position}
use Rattle.text.specs.Rows.{upto, earlier, later}
use Rattle.text.specs.Text.{is_lf}
use Rattle.text.proofs.Order.{row_le, earlier-swap, later-swap, earlier-later}
use Rattle.edit.specs.declared.View.{View}
use Rattle.edit.specs.declared.MotionKind.TheVariants.{Char, Line, Block}
use Rattle.edit.specs.declared.Edit.{Edit}
use Rattle.edit.specs.declared.Edit.TheVariants.{InsertChar, InsertStr, DeleteRange, JoinLines, SplitLines, Replace, InsertBlock, DeleteBlockChunks}
use Rattle.edit.specs.Edits.{chars_deleted, lines_deleted, replaced, range_deleted, edited_by}
use Rattle.edit.specs.Refusals.{is_space, spaces, small, small_position, small_range, small_ok, few_rows, few_ok, payload_ok, within_ok}
use Rattle.edit.specs.Call.{Lent, result_of, applied}
use Rattle.shift.specs.Call.{ordered_range, ordered_ok}
use Rattle.marking.specs.InOrder.{in_order}

-- what does not depend on the order of two places is the same for the earlier and the later
ordered : {A : Type 0} (f : Position → Position → A) (p q : Position) → f q p ≡ f p q → f (earlier p q) (later p q) ≡ f p q
ordered {A} f p q e = go (upto p q)
  where
    go : (b : Bool) → f (cond b p q) (cond b q p) ≡ f p q
    go true = refl
    go false = e

module _ (t : List ℕ) (p q : Position) where
  chars_swap : chars_deleted is_lf t q p ≡ chars_deleted is_lf t p q
  unfolding chars_deleted
  chars_swap = rw (earlier-swap q p, later-swap q p)

  lines-swap : lines_deleted is_lf t q p ≡ lines_deleted is_lf t p q
  unfolding lines_deleted
  lines-swap = rw (min_comm q.row.0 p.row.0, max_comm q.row.0 p.row.0)

  replaced-swap : (x : List ℕ) → replaced is_lf t q p x ≡ replaced is_lf t p q x
  unfolding replaced
  replaced-swap x = rw (earlier-swap q p, later-swap q p)

small_same : (e : Edit) (f s : List ℕ) → small_ok (in_order e) f s ≡ small_ok e f s
unfolding in_order small_ok small_range
small_same (InsertChar p) f s = refl
small_same (InsertStr p) f s = refl
small_same (DeleteRange p q Char) f s = ordered (λ a b. small_range a b Char) p q (and_comm (small_position q) (small_position p))
small_same (DeleteRange p q Line) f s = ordered (λ a b. small_range a b Line) p q (and_comm (small q.row.0) (small p.row.0))
small_same (DeleteRange p q Block) f s = refl
small_same (JoinLines r n b) f s = refl
small_same (SplitLines r) f s = refl
small_same (Replace p q) f s = ordered (λ a b. small_ok (Replace a b) f s) p q (and_comm (small_position q) (small_position p))
small_same (InsertBlock p) f s = refl
small_same (DeleteBlockChunks p) f s = refl

few-same : (t : List ℕ) (e : Edit) (x f s : List ℕ) → few_ok t (in_order e) x f s ≡ few_ok t e x f s
unfolding in_order few_ok few_rows
few-same t (InsertChar p) x f s = refl
few-same t (InsertStr p) x f s = refl
few-same t (DeleteRange p q Char) x f s = refl
few-same t (DeleteRange p q Line) x f s = refl
few-same t (DeleteRange p q Block) x f s = refl
few-same t (JoinLines r n b) x f s = refl
few-same t (SplitLines r) x f s = refl
few-same t (Replace p q) x f s = refl
few-same t (InsertBlock p) x f s = refl
few-same t (DeleteBlockChunks p) x f s = refl

payload_same : (e : Edit) (x f : List ℕ) → payload_ok (in_order e) x f ≡ payload_ok e x f
unfolding in_order payload_ok
payload_same (InsertChar p) x f = refl
payload_same (InsertStr p) x f = refl
payload_same (DeleteRange p q Char) x f = refl
payload_same (DeleteRange p q Line) x f = refl
payload_same (DeleteRange p q Block) x f = refl
payload_same (JoinLines r n b) x f = refl
payload_same (SplitLines r) x f = refl
payload_same (Replace p q) x f = refl
payload_same (InsertBlock p) x f = refl
payload_same (DeleteBlockChunks p) x f = refl

within_same : (t : List ℕ) (e : Edit) (f s : List ℕ) → within_ok t (in_order e) f s ≡ within_ok t e f s
unfolding in_order within_ok
within_same t (InsertChar p) f s = refl
within_same t (InsertStr p) f s = refl
within_same t (DeleteRange p q Char) f s = refl
within_same t (DeleteRange p q Line) f s = refl
within_same t (DeleteRange p q Block) f s = refl
within_same t (JoinLines r n b) f s = refl
within_same t (SplitLines r) f s = refl
within_same t (Replace p q) f s = refl
within_same t (InsertBlock p) f s = refl
within_same t (DeleteBlockChunks p) f s = refl

edited-same : (e : Edit) (x f s t : List ℕ) → edited_by is_lf is_space spaces (in_order e) x f s t ≡ edited_by is_lf is_space spaces e x f s t
unfolding in_order edited_by range_deleted
edited-same (InsertChar p) x f s t = refl
edited-same (InsertStr p) x f s t = refl
edited-same (DeleteRange p q Char) x f s t = ordered (λ a b. chars_deleted is_lf t a b) p q (chars_swap t p q)
edited-same (DeleteRange p q Line) x f s t = ordered (λ a b. lines_deleted is_lf t a b) p q (lines-swap t p q)
edited-same (DeleteRange p q Block) x f s t = refl
edited-same (JoinLines r n b) x f s t = refl
edited-same (SplitLines r) x f s t = refl
edited-same (Replace p q) x f s t = ordered (λ a b. replaced is_lf t a b x) p q (replaced-swap t p q x)
edited-same (InsertBlock p) x f s t = refl
edited-same (DeleteBlockChunks p) x f s t = refl

pub applied-same : (v : View) (e : Edit) (l : Lent) → applied v (in_order e) l ≡ applied v e l
unfolding applied result_of
applied-same v e l = rw (small_same, few-same, payload_same, within_same, edited-same)

pub in_order_lem : (e : Edit) → ordered_ok (in_order e) ≡ true
unfolding in_order ordered_ok ordered_range
in_order_lem (InsertChar p) = refl
in_order_lem (InsertStr p) = refl
in_order_lem (DeleteRange p q Char) = earlier-later p q
in_order_lem (DeleteRange p q Line) = le-leb (earlier p q).row.0 (later p q).row.0 (row_le (earlier p q) (later p q) (earlier-later p q))
in_order_lem (DeleteRange p q Block) = refl
in_order_lem (JoinLines r n b) = refl
in_order_lem (SplitLines r) = refl
in_order_lem (Replace p q) = earlier-later p q
in_order_lem (InsertBlock p) = refl
in_order_lem (DeleteBlockChunks p) = refl
