-- What the tests leave to `follow`, and what it hands on for each kind of edit.
use mathlib.Core.Path.{◌≡◌, sym, ap, subst}
use mathlib.Core.Bool.{Bool, true, false, cond, not, ◌&&◌}
use mathlib.Core.List.{List, []}
use Prim.Native.Nat.{ℕ, ◌+◌, ◌-◌, ◌≤◌}
use native.Mathlib.Omega.{arith}
use borrow.Author.Tests.{leb-true}
use lib.Dec.{T, eqb}
use lib.ListN.{length}
use Rattle.promise.proofs.Bools.{both}
use Rattle.text.specs.declared.Position.{Position}
use Rattle.text.specs.Rows.{at, upto}
use Rattle.text.specs.Text.{all}
use Rattle.edit.specs.declared.MotionKind.{MotionKind}
use Rattle.edit.specs.declared.MotionKind.TheVariants.{Char, Line as Lines}
use Rattle.edit.specs.declared.Edit.{Edit}
use Rattle.edit.specs.declared.Edit.TheVariants.{InsertChar, InsertStr, DeleteRange, JoinLines, SplitLines, Replace, InsertBlock, DeleteBlockChunks}
use Rattle.edit.specs.Refusals.{small, few, small_position, small_range, small_ok, few_ok}
use Rattle.after.specs.After.{after_delete_char}
use Rattle.shift.specs.Call.{ordered_range, ordered_ok}

-- ---- a shift does not read the second list

front-true : (a b : Bool) → (a && b) ≡ true → (a && true) ≡ true
front-true a b h = rw (both a b h).0

pub small-first : (e : Edit) (f s : List ℕ) → small_ok e f s ≡ true → small_ok e f [] ≡ true
unfolding small_ok all
small-first (InsertChar p) f s h = h
small-first (InsertStr p) f s h = h
small-first (DeleteRange p q k) f s h = h
small-first (JoinLines r n b) f s h = h
small-first (SplitLines r) f s h = front-true (small r.0 && all small f) (all small s) h
small-first (Replace p q) f s h = h
small-first (InsertBlock p) f s h = h
small-first (DeleteBlockChunks p) f s h = front-true (small_position p && all small f) (all small s) h

pub few-first : (t : List ℕ) (e : Edit) (x f s : List ℕ) → few_ok t e x f s ≡ true → few_ok t e x f [] ≡ true
unfolding few_ok
few-first t (InsertChar p) x f s h = h
few-first t (InsertStr p) x f s h = h
few-first t (DeleteRange p q k) x f s h = h
few-first t (JoinLines r n b) x f s h = h
few-first t (SplitLines r) x f s h = front-true (few f) (few s) h
few-first t (Replace p q) x f s h = h
few-first t (InsertBlock p) x f s h = h
few-first t (DeleteBlockChunks p) x f s h = front-true (few f) (few s) h

-- ---- numbers

pub small-numbers : (p : Position) → small_position p ≡ true → (p.row.0 ≤ 1_000_000) × (p.col.0 ≤ 1_000_000)
small-numbers p h = let q = both (small p.row.0) (small p.col.0) h in (leb-true p.row.0 1_000_000 q.0, leb-true p.col.0 1_000_000 q.1)

abbrev Bound : Position → ℕ → Type 0
Bound p n = (p.row.0 ≤ n) × (p.col.0 ≤ n)

deleted_bound : (p s e : Position) (n : ℕ) → Bound p n → Bound s n → Bound (after_delete_char p s e) (n + n)
unfolding after_delete_char
deleted_bound p s e n h k = go (upto p s) (not (upto e p)) (eqb p.row.0 e.row.0)
  where
    go : (a b c : Bool) → Bound (cond a p (cond b s (cond c (at s.row.0 (s.col.0 + (p.col.0 - e.col.0))) (at (p.row.0 - (e.row.0 - s.row.0)) p.col.0)))) (n + n)
    go true b c = (omega arith, omega arith)
    go false true c = (omega arith, omega arith)
    go false false true = (omega arith, omega arith)
    go false false false = (omega arith, omega arith)

-- ---- a deleted range, by its kind

module _ (p s e : Position) (k : MotionKind) (h : small_position p ≡ true) (m : small_range s e k ≡ true) (o : ordered_range s e k ≡ true) where
  pub chars_handed : k ≡ Char → (upto s e ≡ true) × (p.col.0 ≤ 1_000_000) × (s.col.0 ≤ 1_000_000)
  unfolding small_range ordered_range
  chars_handed q =
      let m' : (small_position s && small_position e) ≡ true = rw q at m in
      (rw q at o, (small-numbers p h).1, (small-numbers s (both (small_position s) (small_position e) m').0).1)

  pub rows-handed : k ≡ Lines → s.row.0 ≤ e.row.0
  unfolding ordered_range
  rows-handed q = leb-true s.row.0 e.row.0 (rw q at o)

-- ---- an edit, by its kind

module _ (t : List ℕ) (e : Edit) (x f : List ℕ) (p : Position) (h : small_position p ≡ true) (m : small_ok e f [] ≡ true) (w : few_ok t e x f [] ≡ true) (o : ordered_ok e ≡ true) where
  abbrev Inserts : Position → Type 0
  Inserts d = (length x ≤ 16_384) × (d.row.0 ≤ 2_000_000) × (d.col.0 ≤ 2_000_000)

  inserts : (length x ≤ 16_384) → Inserts p
  inserts l = let n = small-numbers p h in (l, omega arith, omega arith)

  pub char_handed : (q : Position) → e ≡ InsertChar q → Inserts p
  unfolding few_ok
  char_handed q i = inserts (leb-true (length x) 16_384 (rw i at w))

  pub str_handed : (q : Position) → e ≡ InsertStr q → Inserts p
  unfolding few_ok
  str_handed q i = inserts (leb-true (length x) 16_384 (rw i at w))

  pub range_handed : (a b : Position) (k : MotionKind) → e ≡ DeleteRange a b k → (small_position p ≡ true) × (small_range a b k ≡ true) × (ordered_range a b k ≡ true)
  unfolding small_ok ordered_ok
  range_handed a b k i = (h, rw i at m, rw i at o)

  module _ (a b : Position) (i : e ≡ Replace a b) where
    starts-small : small_position a ≡ true
    unfolding small_ok
    starts-small = (both (small_position a) (small_position b) (rw i at m)).0

    pub replace_handed : (upto a b ≡ true) × (p.col.0 ≤ 1_000_000) × (a.col.0 ≤ 1_000_000)
    unfolding ordered_ok
    replace_handed = (rw i at o, (small-numbers p h).1, (small-numbers a starts-small).1)

    pub deleted_handed : (d : Position) → d ≡ after_delete_char p a b → Inserts d
    unfolding few_ok
    deleted_handed d q =
        let n = deleted_bound p a b 1_000_000 (small-numbers p h) (small-numbers a starts-small) in
        let r : d.row.0 ≡ (after_delete_char p a b).row.0 = ap (λ (z : Position). z.row.0) q in
        let c : d.col.0 ≡ (after_delete_char p a b).col.0 = ap (λ (z : Position). z.col.0) q in
        (leb-true (length x) 16_384 (rw i at w), omega arith, omega arith)

  pub chunks_handed : (q : Position) → e ≡ InsertBlock q → (p.col.0 ≤ 1_000_000) × T (all small f)
  unfolding small_ok
  chunks_handed q i = ((small-numbers p h).1, subst T (sym (both (small_position q) (all small f) (rw i at m)).1) tt)
