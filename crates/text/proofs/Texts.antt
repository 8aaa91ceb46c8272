-- The test of a text, calls that refuse by it alone, and places put together from their parts.
use mathlib.Core.Path.{◌≡◌, sym, ◌∙◌}
use mathlib.Core.Bool.{Bool, true, false, not, ◌&&◌}
use mathlib.Core.List.{List}
use Prim.Native.Nat.{ℕ, ◌-◌, ◌≤◌, ◌<◌}
use native.Mathlib.Nat.{sub-zero}
use borrow.Author.Tests.{le-leb, lt-leb, leb-true, not-true, not-false}
use lib.Dec.{leb, eqb}
use lib.ListN.{length, take, drop}
use Rattle.promise.specs.Paper.{Paper, done, refused}
use Rattle.promise.proofs.Bools.{both}
use Rattle.text.specs.declared.Position.{Position}
use Rattle.text.specs.Rows.{clamp, in_text}
use Rattle.text.specs.Text.{is_lf, all_admissible, text_ok}
use Rattle.text.specs.Calls.{on_text}

-- the used part, as it is lent
pub front : (b : List ℕ) (used : ℕ) → take (used - 0) (drop 0 b) ≡ take used b
front b used = rw sub-zero

module _ (b : List ℕ) (used : ℕ) where
  pub text-short : length b < used → false ≡ text_ok b used
  unfolding text_ok
  text-short h = rw (lt-leb used (length b) h)

  pub text-long : used ≤ length b → 16384 < used → false ≡ text_ok b used
  unfolding text_ok
  text-long h k = rw (le-leb used (length b) h, lt-leb used 16384 k)

  pub text-scanned : (r : Bool) → used ≤ length b → used ≤ 16384 → r ≡ all_admissible (take (used - 0) (drop 0 b)) → r ≡ text_ok b used
  unfolding text_ok
  text-scanned r h k e = rw (le-leb used (length b) h, le-leb used 16384 k, ← front b used) e

  pub text-true : text_ok b used ≡ true → (used ≤ length b) × (used ≤ 16384)
  unfolding text_ok
  text-true e =
      let p = both (leb used (length b) && leb used 16384) (all_admissible (take used b)) e in
      let q = both (leb used (length b)) (leb used 16384) p.0 in
      (leb-true _ _ q.0, leb-true _ _ q.1)

  -- after `if !is_text(..) { return .. }`
  module _ (r : Bool) (e : r ≡ text_ok b used) where
    pub bad_text : {A : Type 0} (f : List ℕ → A) → not r ≡ true → refused 1 0 ≡ on_text f b used
    bad_text f n = rw (← e, not-true r n)

    pub good_text : not r ≡ false → (used ≤ length b) × (used ≤ 16384)
    good_text n = text-true (sym e ∙ not-false r n)

    pub done_text : {A : Type 0} (f : List ℕ → A) (p : Paper A) → not r ≡ false → p ≡ done (f (take (used - 0) (drop 0 b))) → p ≡ on_text f b used
    done_text f p n g = rw (← e, not-false r n, ← front b used) g

-- whether a position is in the text, from its clamped one
pub in_text-made : (t : List ℕ) (p q : Position) → q ≡ clamp is_lf t p → (eqb q.row.0 p.row.0 && eqb q.col.0 p.col.0) ≡ in_text is_lf t p
unfolding in_text
in_text-made t p q e = rw e
