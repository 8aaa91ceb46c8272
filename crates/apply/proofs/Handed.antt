-- What rows 1 to 4 leave to the workers of the kinds that need more of it than the text.
use mathlib.Core.Path.{◌≡◌}
use mathlib.Core.Bool.{not, ◌&&◌}
use Prim.Native.Nat.{◌≤◌}
use borrow.Author.Tests.{eqb-true}
use lib.Dec.{T, eqb, leb→le}
use lib.ListN.{length}
use Rattle.promise.proofs.Bools.{T_true, T-left, T-right}
use Rattle.text.specs.declared.Position.{Position}
use Rattle.text.specs.declared.Row.{Row}
use Rattle.text.specs.Text.{is_lf, admissible, all}
use Rattle.edit.specs.declared.View.{View}
use Rattle.edit.specs.declared.MotionKind.TheVariants.{Block}
use Rattle.edit.specs.declared.Edit.TheVariants.{DeleteRange, SplitLines, InsertBlock, DeleteBlockChunks}
use Rattle.edit.specs.Edits.{height}
use Rattle.edit.specs.Refusals.{sum, small, small_position, small_range, small_ok, few, short, few_rows, few_ok, payload_ok}
use Rattle.edit.specs.Call.{Lent}
use Rattle.edit.proofs.Workers.{Passed}

small_row : (p : Position) → T (small_position p) → p.row.0 ≤ 1_000_000
small_row p h = leb→le p.row.0 1_000_000 (T-left (small p.row.0) (small p.col.0) h)

small-col : (p : Position) → T (small_position p) → p.col.0 ≤ 1_000_000
small-col p h = leb→le p.col.0 1_000_000 (T-right (small p.row.0) (small p.col.0) h)

module _ (v : View) (l : Lent) where
  pub split-handed : (r : Row) → Passed v (SplitLines r) l → length l.first ≤ 256
  unfolding few_ok
  split-handed r h = leb→le (length l.first) 256 (T-left (few l.first) (few l.second) h.fews)

  pub block_handed : (p q : Position) → Passed v (DeleteRange p q Block) l
      → (p.row.0 ≤ 1_000_000) × (p.col.0 ≤ 1_000_000) × (q.row.0 ≤ 1_000_000) × (q.col.0 ≤ 1_000_000) × (height p q ≤ 256)
  unfolding small_ok small_range few_ok few_rows
  block_handed p q h =
      let a = T-left (small_position p) (small_position q) h.smalls in
      let b = T-right (small_position p) (small_position q) h.smalls in
      (small_row p a, small-col p a, small_row q b, small-col q b, leb→le (height p q) 256 h.fews)

  pub put-handed : (p : Position) → Passed v (InsertBlock p) l
      → (p.row.0 ≤ 1_000_000) × (length l.first ≤ 256) × (sum l.first ≡ length l.payload) × T (all (λ c. not (is_lf c)) l.payload)
  unfolding small_ok few_ok payload_ok
  put-handed p h =
      let plain = all (λ c. not (is_lf c)) l.payload in
      let sums = eqb (sum l.first) (length l.payload) in (
        small_row p (T-left (small_position p) (all small l.first) h.smalls),
        leb→le (length l.first) 256 (T-left (few l.first) (short l.payload) h.fews),
        eqb-true (sum l.first) (length l.payload) (T_true sums (T-right (all admissible l.payload && plain) sums h.payloads)),
        T-right (all admissible l.payload) plain (T-left (all admissible l.payload && plain) sums h.payloads),
      )

  pub cut_handed : (p : Position) → Passed v (DeleteBlockChunks p) l → (p.row.0 ≤ 1_000_000) × (length l.first ≤ 256)
  unfolding small_ok few_ok
  cut_handed p h = (
    small_row p (T-left (small_position p) (all small l.first) (T-left (small_position p && all small l.first) (all small l.second) h.smalls)),
    leb→le (length l.first) 256 (T-left (few l.first) (few l.second) h.fews),
  )
