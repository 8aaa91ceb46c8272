-- From an edit to the resolver of its kind: what that may rely on, and what its answer is.
use mathlib.Core.Path.{◌≡◌, sym, subst, ◌∙◌, ap}
use mathlib.Core.Bool.{Bool, not, ◌&&◌}
use mathlib.Core.List.{List}
use Prim.Native.Nat.{ℕ, ◌-◌, ◌*◌, ◌≤◌, min, max}
use native.Mathlib.Omega.{arith}
use borrow.Author.Tests.{eqb-true}
use lib.Dec.{T, eqb, leb→le}
use lib.ListN.{length}
use Rattle.promise.proofs.Bools.{T_true, T-left, T-right}
use Rattle.text.specs.declared.Position.{Position}
use Rattle.text.specs.declared.Row.{Row}
use Rattle.text.specs.Rows.{last_row}
use Rattle.text.specs.Text.{is_lf, admissible, all}
use Rattle.edit.specs.declared.MotionKind.{MotionKind}
use Rattle.edit.specs.declared.MotionKind.TheVariants.{Char, Line as Lines, Block}
use Rattle.edit.specs.declared.Edit.{Edit}
use Rattle.edit.specs.declared.Edit.TheVariants.{InsertChar, InsertStr, DeleteRange, JoinLines, SplitLines, Replace, InsertBlock, DeleteBlockChunks}
use Rattle.edit.specs.Edits.{height, edited_by}
use Rattle.edit.specs.Refusals.{sum, small, small_position, small_range, small_ok, few, short, few_rows, few_ok, payload_ok, within_ok}
use Rattle.steps.specs.declared.Resolved.{Resolved}
use Rattle.steps.specs.Kinds.{steps_by, makes}
use Rattle.steps.specs.Resolves.{StartsAt, Resolves}
use Rattle.resolve.specs.Admits.{Admitted, cut_first, range_most, most_steps}

pub ranged : (e : Edit) (p q : Position) (m k : MotionKind) → e ≡ DeleteRange p q m → m ≡ k → e ≡ DeleteRange p q k
ranged e p q m k h g = h ∙ ap (λ (x : MotionKind). DeleteRange p q x) g

small-col : (p : Position) → T (small_position p) → p.col.0 ≤ 1_000_000
small-col p h = leb→le p.col.0 1_000_000 (T-right (small p.row.0) (small p.col.0) h)

module _ (e : Edit) (x f s t l : List ℕ) (A : Admitted e x f s t) (m : 5 * most_steps e (length f) ≤ length l) where
  handed : (k : Edit) → e ≡ k → Admitted k x f s t × (5 * most_steps k (length f) ≤ length l)
  handed k q = subst (λ (g : Edit). Admitted g x f s t × (5 * most_steps g (length f) ≤ length l)) q (A, m)

  pub char_handed : (p : Position) → e ≡ InsertChar p → (length x ≤ 16_384) × (5 ≤ length l)
  unfolding few_ok most_steps
  char_handed p q = let h = handed (InsertChar p) q in (leb→le (length x) 16_384 h.0.fews, h.1)

  pub str_handed : (p : Position) → e ≡ InsertStr p → (length x ≤ 16_384) × (5 ≤ length l)
  unfolding few_ok most_steps
  str_handed p q = let h = handed (InsertStr p) q in (leb→le (length x) 16_384 h.0.fews, h.1)

  pub chars_handed : (p q : Position) → e ≡ DeleteRange p q Char → 5 ≤ length l
  unfolding most_steps range_most
  chars_handed p q g = (handed (DeleteRange p q Char) g).1

  pub lines-handed : (p q : Position) → e ≡ DeleteRange p q Lines → 5 ≤ length l
  unfolding most_steps range_most
  lines-handed p q g = (handed (DeleteRange p q Lines) g).1

  pub block_handed : (p q : Position) → e ≡ DeleteRange p q Block → (p.col.0 ≤ 1_000_000) × (q.col.0 ≤ 1_000_000) × (height p q ≤ 256) × (5 * height p q ≤ length l)
  unfolding small_ok small_range few_ok few_rows most_steps range_most
  block_handed p q g =
      let h = handed (DeleteRange p q Block) g in (
        small-col p (T-left (small_position p) (small_position q) h.0.smalls),
        small-col q (T-right (small_position p) (small_position q) h.0.smalls),
        leb→le (height p q) 256 h.0.fews,
        h.1,
      )

  pub join-handed : (r : Row) (n : ℕ) (b : Bool) → e ≡ JoinLines r n b → (min (max n 1) (last_row is_lf t - min r.0 (last_row is_lf t)) ≤ 256) × (5 * min (max n 1) 256 ≤ length l)
  unfolding few_ok most_steps
  join-handed r n b g = let h = handed (JoinLines r n b) g in (leb→le (min (max n 1) (last_row is_lf t - min r.0 (last_row is_lf t))) 256 h.0.fews, h.1)

  pub split-handed : (r : Row) → e ≡ SplitLines r → (length f ≤ 256) × (5 * length f ≤ length l)
  unfolding few_ok most_steps
  split-handed r g = let h = handed (SplitLines r) g in (leb→le (length f) 256 (T-left (few f) (few s) h.0.fews), h.1)

  pub replace_handed : (p q : Position) → e ≡ Replace p q → 5 ≤ length l
  unfolding most_steps
  replace_handed p q g = (handed (Replace p q) g).1

  pub put-handed : (p : Position) → e ≡ InsertBlock p → (length f ≤ 256) × (5 * length f ≤ length l) × (sum f ≤ length x)
  unfolding few_ok payload_ok most_steps
  put-handed p g =
      let h = handed (InsertBlock p) g in
      let sums = eqb (sum f) (length x) in
      let q = eqb-true (sum f) (length x) (T_true sums (T-right (all admissible x && all (λ c. not (is_lf c)) x) sums h.0.payloads)) in
      (leb→le (length f) 256 (T-left (few f) (short x) h.0.fews), h.1, omega arith)

  pub cut_handed : (p : Position) → e ≡ DeleteBlockChunks p → (length f ≤ 256) × (5 * length f ≤ length l)
  unfolding few_ok most_steps
  cut_handed p g = let h = handed (DeleteBlockChunks p) g in (leb→le (length f) 256 (T-left (few f) (few s) h.0.fews), h.1)

-- as many steps as a list of them holds
pub most_few : (e : Edit) (x f s t : List ℕ) → Admitted e x f s t → most_steps e (length f) ≤ 256
unfolding few_ok few_rows range_most most_steps
most_few (InsertChar p) x f s t A = omega arith
most_few (InsertStr p) x f s t A = omega arith
most_few (DeleteRange p q Char) x f s t A = omega arith
most_few (DeleteRange p q Lines) x f s t A = omega arith
most_few (DeleteRange p q Block) x f s t A = leb→le (height p q) 256 A.fews
most_few (JoinLines r n b) x f s t A = omega arith
most_few (SplitLines r) x f s t A = leb→le (length f) 256 (T-left (few f) (few s) A.fews)
most_few (Replace p q) x f s t A = omega arith
most_few (InsertBlock p) x f s t A = leb→le (length f) 256 (T-left (few f) (short x) A.fews)
most_few (DeleteBlockChunks p) x f s t A = leb→le (length f) 256 (T-left (few f) (few s) A.fews)

module _ (e k : Edit) (same : e ≡ k) (r : Resolved) (l x f s t : List ℕ) where
  pub resolved : Resolves r l (cut_first k) x f s t → Resolves r l (cut_first e) x f s t
  resolved R = subst (λ (g : Edit). Resolves r l (cut_first g) x f s t) (sym same) R

-- a character goes in as a text does
pub char_resolves : (r : Resolved) (l x f s t : List ℕ) (p : Position) → Resolves r l (InsertStr p) x f s t → Resolves r l (InsertChar p) x f s t
unfolding steps_by makes within_ok edited_by StartsAt
char_resolves r l x f s t p R = record {
  few = R.few;
  numbers = R.numbers;
  come = R.come;
  steps = R.steps;
  made = R.made;
  within = R.within;
  inverse = R.inverse;
  first = R.first;
  second = R.second;
  start = R.start;
  cursor = R.cursor;
}
