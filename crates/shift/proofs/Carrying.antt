-- The two ends of a selection, followed together; and a selection that is carried along.
use mathlib.Core.Path.{◌≡◌, refl, sym, ◌∙◌}
use mathlib.Core.Bool.{Bool, true, false, cond, not, ◌&&◌}
use mathlib.Core.List.{List}
use Prim.Native.Nat.{ℕ}
use lib.ListN.{take}
use Rattle.promise.specs.Paper.{done, refused}
use Rattle.promise.proofs.Bools.{both}
use Rattle.text.specs.declared.Position.{Position}
use Rattle.text.specs.Text.{text_ok}
use Rattle.edit.specs.declared.Edit.{Edit}
use Rattle.edit.specs.Refusals.{small_position, small_ok, few_ok, payload_ok}
use Rattle.edit.specs.Call.{first_of}
use Rattle.select.specs.declared.Sel.{Sel}
use Rattle.select.specs.Sels.{sel}
use Rattle.shift.specs.Answers.{Followed, to, dropped, followed}
use Rattle.shift.specs.Kinds.{shifted}
use Rattle.shift.specs.Call.{ordered_ok, both as ends, sel_shifted, kept, carried_over}
use Rattle.std.specs.Prelude.{Option, Some, None}

ends_dropped : (y : Followed Position) → dropped ≡ ends dropped y
ends_dropped (to h) = refl
ends_dropped dropped = refl

module _ (t : List ℕ) (e : Edit) (x f : List ℕ) (l : Sel) where
  abbrev Tracks : Option Position → Position → Type 0
  Tracks w p = followed w ≡ shifted t e x f p

  abbrev landed : Followed Sel
  landed = ends (shifted t e x f l.anchor) (shifted t e x f l.head)

  -- ---- from what each end is followed to

  pub anchor_dropped : (w : Option Position) → Tracks w l.anchor → w ≡ None → dropped ≡ landed
  anchor_dropped w a i =
      let y : dropped ≡ shifted t e x f l.anchor = rw i at a in
      rw (← y) (ends_dropped (shifted t e x f l.head))

  module _ (w : Option Position) (p : Position) (a : Tracks w l.anchor) (i : w ≡ Some p) (z : Option Position) (c : Tracks z l.head) where
    there : to p ≡ shifted t e x f l.anchor
    there = rw i at a

    pub head_dropped : z ≡ None → dropped ≡ landed
    head_dropped j =
        let y : dropped ≡ shifted t e x f l.head = rw j at c in
        rw (← there, ← y)

    pub sel-lands : (r : Position) → z ≡ Some r → to (sel p r) ≡ landed
    sel-lands r j =
        let y : to r ≡ shifted t e x f l.head = rw j at c in
        rw (← there, ← y)

  -- ---- carried along

  module _ (m k : Bool) (n : m ≡ small_position l.anchor) (o : k ≡ small_position l.head) where
    pub too_big-drops : not (m && k) ≡ true → dropped ≡ carried_over t e x f l
    unfolding carried_over
    too_big-drops h = rw (← n, ← o) (go (m && k) h)
      where
        go : (b : Bool) → not b ≡ true → dropped ≡ cond b landed dropped
        go true h = cc
        go false h = refl

    module _ (h : not (m && k) ≡ false) where
      fits : (m && k) ≡ true
      fits = go (m && k) h
        where
          go : (b : Bool) → not b ≡ false → b ≡ true
          go true h = refl
          go false h = cc

      pub ends_small : (small_position l.anchor ≡ true) × (small_position l.head ≡ true)
      ends_small = let b = both m k fits in (sym n ∙ b.0, sym o ∙ b.1)

      pub carried-lands : (r : Followed Sel) → r ≡ landed → r ≡ carried_over t e x f l
      unfolding carried_over
      carried-lands r i = rw (ends_small.0, ends_small.1) i

-- A shift that only its positions can refuse carries the selection along, or drops it.
pub kept-carries : (b : List ℕ) (used : ℕ) (e : Edit) (x f s : List ℕ) (l : Sel) → text_ok b used ≡ true → small_ok e f s ≡ true → few_ok (take used b) e x f s ≡ true
    → payload_ok e x f ≡ true → ordered_ok e ≡ true → kept (sel_shifted b used e x f s l) ≡ carried_over (take used b) e x f l
unfolding sel_shifted first_of carried_over
kept-carries b used e x f s l t n w p o = rw (t, n, w, p, o) (go (small_position l.anchor && small_position l.head) _)
  where
    go : (b : Bool) (c : Followed Sel) → kept (cond (not b) (refused 2 0) (done c)) ≡ cond b c dropped
    go true c = refl
    go false c = refl
