-- Rows 1 to 4 in order, from what was found for each.
use mathlib.Core.Path.{◌≡◌}
use mathlib.Core.Bool.{Bool, true, false, not}
use mathlib.Core.List.{List}
use Prim.Native.Nat.{ℕ, ◌-◌}
use lib.ListN.{take, drop}
use Rattle.promise.specs.Paper.{Paper, refused}
use Rattle.text.specs.Text.{text_ok}
use Rattle.text.proofs.Texts.{front}
use Rattle.edit.specs.declared.View.{View}
use Rattle.edit.specs.declared.Edit.{Edit}
use Rattle.edit.specs.Refusals.{small_ok, few_ok, payload_ok}
use Rattle.edit.specs.Call.{first_of, verdict_of, given_tests, Lent}
use Rattle.given.specs.Tests.{later_tests}

pub later-judged : (t : List ℕ) (e : Edit) (x f s : List ℕ) (small few good : Bool) (p : Paper (Unit {0})) → small ≡ small_ok e f s → few ≡ few_ok t e x f s → good ≡ payload_ok e x f
    → p ≡ verdict_of (later_tests small few good) → p ≡ verdict_of (later_tests (small_ok e f s) (few_ok t e x f s) (payload_ok e x f))
later-judged t e x f s small few good p i j k h = rw (← i, ← j, ← k) h

module _ (v : View) (e : Edit) (l : Lent) (ok : Bool) (t : ok ≡ text_ok l.buffer v.used) where
  pub bad_text : not ok ≡ true → refused 1 0 ≡ verdict_of (given_tests v e l)
  unfolding first_of
  bad_text n = rw (← t, n)

  pub judged : (p : Paper (Unit {0})) → not ok ≡ false
      → p ≡ verdict_of (later_tests (small_ok e l.first l.second) (few_ok (take (v.used - 0) (drop 0 l.buffer)) e l.payload l.first l.second) (payload_ok e l.payload l.first))
      → p ≡ verdict_of (given_tests v e l)
  unfolding first_of
  judged p n h = rw (← t, n, ← front l.buffer v.used) h
