-- The call in two halves, as code goes about it: rows 1 to 4 are judged first, and a worker does the rest.
use mathlib.Core.Path.{◌≡◌, refl, sym, ap, ◌∙◌}
use mathlib.Core.Bool.{Bool, true, false}
use mathlib.Core.List.{List, [], ◌∷◌, ◌++◌}
use Prim.Native.Nat.{ℕ, ◌-◌, ◌≤◌}
use native.Mathlib.Omega.{arith}
use lib.Dec.{T, leb, leb→le}
use lib.ListN.{length, take, drop}
use Rattle.promise.specs.Paper.{Paper, done, refused}
use Rattle.promise.specs.Slices.{over}
use Rattle.promise.proofs.Bools.{T_true, T-left, T-right}
use Rattle.text.specs.Text.{text_ok, renewed}
use Rattle.text.proofs.Texts.{front, text-true}
use Rattle.edit.specs.declared.View.{View}
use Rattle.edit.specs.declared.Edit.{Edit}
use Rattle.edit.specs.declared.Refusal.{Refusal}
use Rattle.edit.specs.declared.Room.{Room}
use Rattle.edit.specs.declared.Applied.{Applied}
use Rattle.edit.specs.Edits.{Edited}
use Rattle.edit.specs.Refusals.{short, small_ok, few_ok, payload_ok, within_ok, room_ok, record_ok}
use Rattle.edit.specs.Call.{paper, number_of, offset_of, first_of, verdict_of, Lent, outcome, text_of, result_of, room_of, given_tests, result_tests, applied_as, leaves, finished, applied, is_undoable, undoable}
use Rattle.edit.proofs.Accepted.{record_fits}
use Rattle.edit.proofs.Calls.{passed, leaves-answer}
use Rattle.std.specs.Prelude.{Result, Ok, Err}

-- ---- a list of tests, judged before it is known what is done if all pass

first_append : {A : Type 0} (xs ys : List (Bool × Refusal)) (a : Paper A) → first_of (xs ++ ys) a ≡ first_of xs (first_of ys a)
unfolding first_of
first_append [] ys a = refl
first_append (x ∷ xs) ys a = rw (first_append xs ys a)

pub first_passes : {A : Type 0} (xs : List (Bool × Refusal)) → done tt ≡ verdict_of xs → (a : Paper A) → first_of xs a ≡ a
unfolding first_of
first_passes [] e a = refl
first_passes ((true, r) ∷ xs) e a = cc
first_passes ((false, r) ∷ xs) e a = first_passes xs e a

pub first_refuses : {A : Type 0} (xs : List (Bool × Refusal)) (n k : ℕ) → refused n k ≡ verdict_of xs → (a : Paper A) → first_of xs a ≡ refused n k
unfolding first_of
first_refuses [] n k e a = cc
first_refuses ((true, r) ∷ xs) n k e a =
    let p : n ≡ number_of r = cc in
    let q : k ≡ offset_of r = cc in
    rw (p, q)
first_refuses ((false, r) ∷ xs) n k e a = first_refuses xs n k e a

-- ---- rows 1 to 4

module _ (v : View) (e : Edit) (l : Lent) where
  pub applied-refused : (n k : ℕ) → refused n k ≡ verdict_of (given_tests v e l)
      → outcome (refused n k) l.buffer l.out_payload l.out_first l.out_second ≡ applied v e l
  unfolding applied leaves
  applied-refused n k h =
      let R = result_tests (within_ok (text_of v l) e l.first l.second) (room_of l) (result_of v e l) in
      rw (first_append (given_tests v e l) R (done (applied_as v (result_of v e l))), first_refuses (given_tests v e l) n k h (first_of R (done (applied_as v (result_of v e l)))))

  pub applied-finished : done tt ≡ verdict_of (given_tests v e l)
      → finished (within_ok (text_of v l) e l.first l.second) v l (result_of v e l) ≡ applied v e l
  unfolding applied finished
  applied-finished h =
      let R = result_tests (within_ok (text_of v l) e l.first l.second) (room_of l) (result_of v e l) in
      rw (first_append (given_tests v e l) R (done (applied_as v (result_of v e l))), first_passes (given_tests v e l) h (first_of R (done (applied_as v (result_of v e l)))))

-- ---- rows 7 to 9

module _ (within : Bool) (v : View) (l : Lent) (d : Edited ℕ) where
  pub finished-refused : (n k : ℕ) → refused n k ≡ verdict_of (result_tests within (room_of l) d)
      → outcome (refused n k) l.buffer l.out_payload l.out_first l.out_second ≡ finished within v l d
  unfolding finished leaves
  finished-refused n k h = rw (first_refuses (result_tests within (room_of l) d) n k h (done (applied_as v d)))

  pub finished-done : done tt ≡ verdict_of (result_tests within (room_of l) d) → leaves (done (applied_as v d)) v l d ≡ finished within v l d
  unfolding finished
  finished-done h = rw (first_passes (result_tests within (room_of l) d) h (done (applied_as v d)))

-- what a worker knows of its room, once rows 7 to 9 have not refused
pub record Fits (R : Room) (d : Edited ℕ) : Type 0 where
  pub buffer : length d.text ≤ R.buffer
  pub limit : length d.text ≤ 16_384
  pub payload : length d.inverse.payload ≤ R.payload
  pub first : length d.inverse.first ≤ R.first
  pub second : length d.inverse.second ≤ R.second

pub fits : (within : Bool) (R : Room) (d : Edited ℕ) → done tt ≡ verdict_of (result_tests within R d) → T within × Fits R d
unfolding room_ok
fits within R d h =
    let t7 = passed within _ _ _ _ (sym h) in
    let t8 = passed (room_ok R d.text) _ _ _ _ t7.1 in
    let t9 = passed (record_ok R d.inverse) _ _ _ _ t8.1 in
    let f = record_fits R d.inverse t9.0 in (
      t7.0,
      record {
        buffer = leb→le (length d.text) R.buffer (T-left (leb (length d.text) R.buffer) (short d.text) t8.0);
        limit = leb→le (length d.text) 16384 (T-right (leb (length d.text) R.buffer) (short d.text) t8.0);
        payload = f.0;
        first = f.1;
        second = f.2;
      },
    )

-- ---- a worker's answer, from the verdict on its plan and from what it stored

module _ (within : Bool) (room : Room) (d : Edited ℕ) (v : Result (Unit {0}) Refusal) (h : paper v ≡ verdict_of (result_tests within room d)) where
  pub worked_fits : v ≡ Ok tt → Fits room d
  worked_fits e = (fits within room d (ap paper (sym e) ∙ h)).1

  module _ (view : View) (l : Lent) (r : room_of l ≡ room) where
    pub worked_refused : (why : Refusal) → v ≡ Err why → outcome (refused (number_of why) (offset_of why)) l.buffer l.out_payload l.out_first l.out_second ≡ finished within view l d
    worked_refused why e = finished-refused within view l d (number_of why) (offset_of why) (rw r (ap paper (sym e) ∙ h))

    pub worked_leaves : v ≡ Ok tt → leaves (done (applied_as view d)) view l d ≡ finished within view l d
    worked_leaves e = finished-done within view l d (rw r (ap paper (sym e) ∙ h))

    -- the same from what the worker has and leaves, part by part
    pub worked_done : v ≡ Ok tt → (a : Applied) (t p f s : List ℕ) → a ≡ applied_as view d → t ≡ renewed l.buffer view.used d.text → p ≡ over d.inverse.payload l.out_payload
        → f ≡ over d.inverse.first l.out_first → s ≡ over d.inverse.second l.out_second → outcome (done a) t p f s ≡ finished within view l d
    unfolding leaves
    worked_done e a t p f s ea et ep ef es = rw (ea, et, ep, ef, es) (worked_leaves e)

-- what a worker is handed, once rows 1 to 4 have not refused
pub record Passed (v : View) (e : Edit) (l : Lent) : Type 0 where
  pub textual : T (text_ok l.buffer v.used)
  pub smalls : T (small_ok e l.first l.second)
  pub fews : T (few_ok (text_of v l) e l.payload l.first l.second)
  pub payloads : T (payload_ok e l.payload l.first)

pub given_passed : (v : View) (e : Edit) (l : Lent) → done tt ≡ verdict_of (given_tests v e l) → Passed v e l
given_passed v e l h =
    let t1 = passed (text_ok l.buffer v.used) _ _ _ _ (sym h) in
    let t2 = passed (small_ok e l.first l.second) _ _ _ _ t1.1 in
    let t3 = passed (few_ok (text_of v l) e l.payload l.first l.second) _ _ _ _ t2.1 in
    let t4 = passed (payload_ok e l.payload l.first) _ _ _ _ t3.1 in
    record { textual = t1.0; smalls = t2.0; fews = t3.0; payloads = t4.0 }

-- ---- from an accepted call to what passed

accepted-passes : {A : Type 0} (xs : List (Bool × Refusal)) (z : Paper A) (a : A) → first_of xs z ≡ done a → (done tt ≡ verdict_of xs) × (z ≡ done a)
unfolding first_of
accepted-passes [] z a e = (refl, e)
accepted-passes ((true, r) ∷ xs) z a e = let w : refused (number_of r) (offset_of r) ≡ done a = e in let n : ◌≡◌ {A = ℕ} 0 1 = cc in absurd (omega arith)
accepted-passes ((false, r) ∷ xs) z a e = accepted-passes xs z a e

pub accepted : (v : View) (e : Edit) (l : Lent) (a : Applied) → (applied v e l).answer ≡ done a → Passed v e l × Fits (room_of l) (result_of v e l)
unfolding applied
accepted v e l a h =
    let d = result_of v e l in
    let W = within_ok (text_of v l) e l.first l.second in
    let R = result_tests W (room_of l) d in
    let z = done (applied_as v d) in
    let g = accepted-passes (given_tests v e l) (first_of R z) a (sym (first_append (given_tests v e l) R z) ∙ sym (leaves-answer (first_of (given_tests v e l ++ R) z) v l d) ∙ h) in
    (given_passed v e l g.0, (fits W (room_of l) d (accepted-passes R z a g.1).0).1)

-- ---- from the verdict on rows 1 to 4, by its case

module _ (v : View) (e : Edit) (l : Lent) (x : Result (Unit {0}) Refusal) (h : paper x ≡ verdict_of (given_tests v e l)) where
  pub fine_text : x ≡ Ok tt → (v.used ≤ length l.buffer) × (v.used ≤ 16_384)
  fine_text q = text-true l.buffer v.used (T_true (text_ok l.buffer v.used) (given_passed v e l (rw q at h)).textual)

  pub undoable-bad : (r : Refusal) → x ≡ Err r → refused (number_of r) (offset_of r) ≡ undoable v e l
  unfolding undoable
  undoable-bad r q = sym (first_refuses (given_tests v e l) (number_of r) (offset_of r) (rw q at h) (done (is_undoable (text_of v l) e)))

  pub undoable-fine : (b : Bool) → x ≡ Ok tt → b ≡ is_undoable (take (v.used - 0) (drop 0 l.buffer)) e → done b ≡ undoable v e l
  unfolding undoable
  undoable-fine b q f = rw (first_passes (given_tests v e l) (rw q at h) (done (is_undoable (text_of v l) e)), ← front l.buffer v.used, ← f)
