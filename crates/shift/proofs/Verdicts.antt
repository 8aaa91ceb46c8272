-- What refuses a shift, in order; and the whole call, from the verdict.
use mathlib.Core.Path.{◌≡◌, sym, ◌∙◌}
use mathlib.Core.Bool.{Bool, true, false, not, ◌&&◌}
use mathlib.Core.List.{List, [], ◌∷◌}
use Prim.Native.Nat.{ℕ, ◌-◌, ◌≤◌}
use native.Mathlib.Omega.{arith}
use lib.ListN.{length, take, drop, length-take}
use Rattle.promise.specs.Paper.{Paper, done, refused}
use Rattle.promise.proofs.Bools.{both, T_true}
use Rattle.text.specs.declared.Position.{Position}
use Rattle.text.specs.Text.{text_ok, text_limit}
use Rattle.text.proofs.Texts.{front, text-true}
use Rattle.edit.specs.declared.Edit.{Edit}
use Rattle.edit.specs.declared.Refusal.{Refusal}
use Rattle.edit.specs.declared.Refusal.TheVariants.{Reversed}
use Rattle.edit.specs.Refusals.{small_position, small_ok, few_ok, payload_ok}
use Rattle.edit.specs.Call.{paper, number_of, offset_of, first_of, verdict_of}
use Rattle.edit.proofs.Calls.{passed}
use Rattle.edit.proofs.Workers.{first_passes, first_refuses}
use Rattle.given.specs.Tests.{later_tests}
use Rattle.select.specs.declared.Sel.{Sel}
use Rattle.shift.specs.Answers.{Followed, followed}
use Rattle.shift.specs.Kinds.{shifted}
use Rattle.shift.specs.Call.{ordered_ok, shift_tests, both as ends, position_shifted, sel_shifted}
use Rattle.shift.proofs.Handed.{small-first, few-first}
use Rattle.std.specs.Prelude.{Result, Ok, Err, Option, Some, None}

-- ---- the verdict

module _ (b : List ℕ) (used : ℕ) (e : Edit) (x f s : List ℕ) (small ok : Bool) (t : ok ≡ text_ok b used) where
  pub shift_bad_text : not ok ≡ true → refused 1 0 ≡ verdict_of (shift_tests b used e x f s small)
  unfolding first_of
  shift_bad_text n = rw (← t, n)

  module _ (p : not ok ≡ false) (numbers few good : Bool) (n : numbers ≡ small_ok e f s) (w : few ≡ few_ok (take (used - 0) (drop 0 b)) e x f s) (g : good ≡ payload_ok e x f)
      (v : Result (Unit {0}) Refusal) (h : paper v ≡ verdict_of (later_tests (numbers && small) few good)) where
    later : verdict_of (shift_tests b used e x f s small) ≡ first_of (later_tests (numbers && small) few good) (verdict_of ((not (ordered_ok e), Reversed) ∷ []))
    unfolding first_of
    later = rw (← t, p, ← n, ← front b used, ← w, ← g)

    pub shift_refused : (r : Refusal) → v ≡ Err r → refused (number_of r) (offset_of r) ≡ verdict_of (shift_tests b used e x f s small)
    shift_refused r q = sym (later ∙ first_refuses (later_tests (numbers && small) few good) (number_of r) (offset_of r) (rw q at h) (verdict_of ((not (ordered_ok e), Reversed) ∷ [])))

    module _ (q : v ≡ Ok tt) (o : Bool) (i : o ≡ ordered_ok e) where
      lasts : verdict_of (shift_tests b used e x f s small) ≡ verdict_of ((not (ordered_ok e), Reversed) ∷ [])
      lasts = later ∙ first_passes (later_tests (numbers && small) few good) (rw q at h) (verdict_of ((not (ordered_ok e), Reversed) ∷ []))

      pub shift_reversed : not o ≡ true → refused 6 0 ≡ verdict_of (shift_tests b used e x f s small)
      unfolding first_of
      shift_reversed k = sym (lasts ∙ rw (← i, k))

      pub shift_fine : not o ≡ false → done tt ≡ verdict_of (shift_tests b used e x f s small)
      unfolding first_of
      shift_fine k = sym (lasts ∙ rw (← i, k))

-- ---- from the verdict

-- what `follow` asks
abbrev Asked : List ℕ → ℕ → Edit → List ℕ → List ℕ → Position → Type 0
Asked b used e x f p =
    (length (take (used - 0) (drop 0 b)) ≤ text_limit) × (small_position p ≡ true) × (small_ok e f [] ≡ true) × (few_ok (take (used - 0) (drop 0 b)) e x f [] ≡ true) × (ordered_ok e ≡ true)

module _ (b : List ℕ) (used : ℕ) (e : Edit) (x f s : List ℕ) (small : Bool) (v : Result (Unit {0}) Refusal) (h : paper v ≡ verdict_of (shift_tests b used e x f s small)) (q : v ≡ Ok tt) where
  pub record Passed : Type 0 where
    pub textual : (used ≤ length b) × (used ≤ 16_384)
    pub smalls : (small_ok e f [] ≡ true) × (small ≡ true)
    pub fews : few_ok (take (used - 0) (drop 0 b)) e x f [] ≡ true
    pub orders : ordered_ok e ≡ true

  pub shift_passed : Passed
  shift_passed =
      let t1 = passed (text_ok b used) _ _ _ _ (sym (rw q at h)) in
      let t2 = passed (small_ok e f s && small) _ _ _ _ t1.1 in
      let t3 = passed (few_ok (take used b) e x f s) _ _ _ _ t2.1 in
      let t4 = passed (payload_ok e x f) _ _ _ _ t3.1 in
      let t5 = passed (ordered_ok e) _ _ _ _ t4.1 in
      let n = both (small_ok e f s) small (T_true (small_ok e f s && small) t2.0) in
      record {
        textual = text-true b used (T_true (text_ok b used) t1.0);
        smalls = (small-first e f s n.0, n.1);
        fews = few-first (take (used - 0) (drop 0 b)) e x f s (rw (front b used) (T_true (few_ok (take used b) e x f s) t3.0));
        orders = T_true (ordered_ok e) t5.0;
      }

  asked : (p : Position) → small_position p ≡ true → Asked b used e x f p
  asked p k = let g = shift_passed in (rw (front b used) (omega (arith, length-take used b, g.textual.1)), k, g.smalls.0, g.fews, g.orders)

-- ---- the whole call, of a position

module _ (b : List ℕ) (used : ℕ) (e : Edit) (x f s : List ℕ) (p : Position) (small : Bool) (n : small ≡ small_position p) (v : Result (Unit {0}) Refusal)
    (h : paper v ≡ verdict_of (shift_tests b used e x f s small)) where
  pub position-refused : (r : Refusal) → v ≡ Err r → refused (number_of r) (offset_of r) ≡ position_shifted b used e x f s p
  unfolding position_shifted
  position-refused r q = sym (first_refuses (shift_tests b used e x f s (small_position p)) (number_of r) (offset_of r) (rw (← n) (rw q at h)) (done (shifted (take used b) e x f p)))

  module _ (q : v ≡ Ok tt) where
    pub position-asked : Asked b used e x f p
    position-asked = asked b used e x f s small v h q p (sym n ∙ (shift_passed b used e x f s small v h q).smalls.1)

    pub position-follows : (w : Option Position) → followed w ≡ shifted (take (used - 0) (drop 0 b)) e x f p → done (followed w) ≡ position_shifted b used e x f s p
    unfolding position_shifted
    position-follows w y =
        sym (first_passes (shift_tests b used e x f s (small_position p)) (rw (← n) (rw q at h)) (done (shifted (take used b) e x f p)) ∙ rw (y, front b used))

-- ---- the whole call, of a selection

module _ (b : List ℕ) (used : ℕ) (e : Edit) (x f s : List ℕ) (l : Sel) (m k : Bool) (n : m ≡ small_position l.anchor) (o : k ≡ small_position l.head) (v : Result (Unit {0}) Refusal)
    (h : paper v ≡ verdict_of (shift_tests b used e x f s (m && k))) where
  abbrev tests : List (Bool × Refusal)
  tests = shift_tests b used e x f s (small_position l.anchor && small_position l.head)

  abbrev landed : Paper (Followed Sel)
  landed = done (ends (shifted (take used b) e x f l.anchor) (shifted (take used b) e x f l.head))

  pub sel-refused : (r : Refusal) → v ≡ Err r → refused (number_of r) (offset_of r) ≡ sel_shifted b used e x f s l
  unfolding sel_shifted
  sel-refused r q = sym (first_refuses tests (number_of r) (offset_of r) (rw (← n, ← o) (rw q at h)) landed)

  module _ (q : v ≡ Ok tt) where
    both_small : (m ≡ true) × (k ≡ true)
    both_small = both m k (shift_passed b used e x f s (m && k) v h q).smalls.1

    pub sel-asked : (length (take (used - 0) (drop 0 b)) ≤ text_limit) × (small_position l.anchor ≡ true) × (small_position l.head ≡ true) × (small_ok e f [] ≡ true)
        × (few_ok (take (used - 0) (drop 0 b)) e x f [] ≡ true) × (ordered_ok e ≡ true)
    sel-asked =
        let a = asked b used e x f s (m && k) v h q l.anchor (sym n ∙ both_small.0) in
        (a.0, a.1, sym o ∙ both_small.1, a.2, a.3, a.4)

    pub sel-follows : (w : Option Sel) → followed w ≡ ends (shifted (take (used - 0) (drop 0 b)) e x f l.anchor) (shifted (take (used - 0) (drop 0 b)) e x f l.head)
        → done (followed w) ≡ sel_shifted b used e x f s l
    unfolding sel_shifted
    sel-follows w y = sym (first_passes tests (rw (← n, ← o) (rw q at h)) landed ∙ rw (y, front b used))
