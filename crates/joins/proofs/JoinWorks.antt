-- The worker for joins: its plan is the edit's, and what it stores is what the edit leaves.
use mathlib.Core.Path.{◌≡◌, refl, sym, ap, ◌∙◌}
use mathlib.Core.Bool.{Bool, true}
use mathlib.Core.List.{List, ◌++◌}
use mathlib.Core.Logic.{◌⊎◌, inl, inr}
use Prim.Native.Nat.{ℕ, ◌+◌, ◌-◌, ◌%◌, ◌^◌, ◌≤◌, min, max}
use native.Mathlib.Nat.{sub-zero}
use native.Mathlib.Omega.{arith}
use native.Mathlib.Decide.{dec_le}
use lib.ListN.{length, take, drop, length-append, length-take, length-drop}
use lib.Seq.{take-take}
use Rattle.promise.specs.Paper.{done, refused}
use Rattle.promise.specs.Slices.{over}
use Rattle.text.specs.declared.Span.{Span}
use Rattle.text.specs.Rows.{last_row, row_end, span, at}
use Rattle.text.specs.Text.{is_lf, renewed}
use Rattle.text.proofs.Texts.{front}
use Rattle.edit.specs.declared.View.{View}
use Rattle.edit.specs.declared.Edit.TheVariants.{SplitLines}
use Rattle.edit.specs.declared.Refusal.{Refusal}
use Rattle.edit.specs.declared.Room.{Room}
use Rattle.edit.specs.declared.Plan.{Plan}
use Rattle.edit.specs.Edits.{Edited, joined}
use Rattle.edit.specs.Refusals.{is_space, spaces}
use Rattle.edit.specs.Call.{paper, number_of, offset_of, verdict_of, result_tests, plan_of, Lent, lent, room_of, outcome, applied_as, finished}
use Rattle.edit.proofs.Joins.{join_cols-length, join_flags-length}
use Rattle.text.proofs.Walks.{found_row, found_again}
use Rattle.text.proofs.Spots.{row_within}
use Rattle.edit.proofs.Workers.{worked_fits, worked_refused, worked_done}
use Rattle.joins.specs.declared.JoinPlan.{JoinPlan}
use Rattle.joins.specs.Turns.{join_plan, joins, Slices, slices, filled}
use Rattle.joins.proofs.JoinTurns.{below_of, below_count, joins-same, joined-joins, joins-small}
use Rattle.joins.proofs.Parts.{part-last, part-span}
use Rattle.joins.proofs.JoinLocal.{part-joins, part-whole}
use Rattle.splice.specs.Splice.{gap_removed}
use Rattle.splice.proofs.Rooms.{moved_down}
use Rattle.std.specs.Prelude.{Result, Ok, Err}

-- the row that was found, and the plan for it
module _ (text : List ℕ) (used row count : ℕ) (b : Bool) (f : Span) (ef : f ≡ span is_lf (take (used - 0) (drop 0 text)) row) where
  abbrev t : List ℕ
  t = take used text

  abbrev d : Edited ℕ
  d = joined is_lf is_space spaces t row count b

  same_row : joined is_lf is_space spaces t f.row.0 count b ≡ d
  unfolding joined
  same_row = let k : min (min row (last_row is_lf t)) (last_row is_lf t) ≡ min row (last_row is_lf t) = omega arith in rw (found_row text used row f ef, k)

  row_in : f.row.0 ≤ last_row is_lf t
  row_in = omega (arith, found_row text used row f ef)

  module _ (j : JoinPlan) (ep : j ≡ join_plan (take (used - 0) (drop 0 text)) f.row.0 count b) where
    abbrev p : Plan
    p = j.sizes

    abbrev r : ℕ
    r = f.row.0

    lent-planned : j ≡ join_plan t r count b
    lent-planned = ep ∙ rw (front text used)

    pub join-planned : plan_of d ≡ p
    join-planned = sym (ap (λ (j : JoinPlan). j.sizes) lent-planned ∙ rw same_row)

    plan_is : p ≡ plan_of (joins t r b (max count 1))
    plan_is = sym join-planned ∙ ap plan_of (sym same_row ∙ joined-joins t r count b row_in)

    first_is : p.first ≡ length (take (max count 1) (below_of t r))
    unfolding joins
    first_is = ap (λ (q : Plan). q.first) plan_is ∙ join_cols-length b _ (take (max count 1) (below_of t r))

    second_is : p.second ≡ length (take (max count 1) (below_of t r))
    unfolding joins
    second_is = ap (λ (q : Plan). q.second) plan_is ∙ join_flags-length b _ (take (max count 1) (below_of t r))

    join-count : p.first ≤ last_row is_lf t - r
    join-count = omega (arith, first_is, length-take (max count 1) (below_of t r), below_count t r)

    -- as many joins as the plan has make the edit
    all_made : joins t r b p.first ≡ d
    all_made = joins-same t r b p.first (max count 1) (omega (arith, join-count, below_count t r)) (omega (arith, first_is, length-take (max count 1) (below_of t r))) enough
        ∙ sym (joined-joins t r count b row_in) ∙ same_row
      where
        enough : (length (below_of t r) ≤ p.first) ⊎ (max count 1 ≤ p.first)
        enough = elim (dec_le (max count 1) (length (below_of t r))) [ yes k ↦ inr (omega (arith, first_is, length-take (max count 1) (below_of t r))) | no k ↦ inl (omega (arith, first_is, length-take (max count 1) (below_of t r))) ]

    -- the text up to where the last row ends that is joined

    abbrev e : ℕ
    e = j.end.0

    last_in : r + p.first ≤ last_row is_lf t
    last_in = omega (arith, join-count, row_in)

    end_is : e ≡ row_end is_lf t (r + p.first)
    unfolding span
    end_is =
        let n : length (joined is_lf is_space spaces t r count b).inverse.first ≡ p.first = rw same_row (ap (λ (q : Plan). q.first) join-planned) in
        let m : min (r + p.first) (last_row is_lf t) ≡ r + p.first = omega (arith, last_in) in
        ap (λ (j : JoinPlan). j.end.0) lent-planned ∙ rw (n, m)

    module _ (room : used ≤ length text) where
      pub end-within : e ≤ used
      end-within = omega (arith, end_is, row_within is_lf t (r + p.first), length-take used text)

      part-is : take e (take (e - 0) (drop 0 text)) ≡ take e t
      part-is = rw (front text e, take-take e e text (omega arith), take-take e used text end-within)

      pub part-found : f ≡ span is_lf (take e (take (e - 0) (drop 0 text))) r
      part-found = found_again text used row f ef ∙ rw (part-is, end_is) (sym (part-span t r p.first last_in))

      part_end : last_row is_lf (take e t) ≡ r + p.first
      part_end = rw end_is (part-last t r p.first last_in)

      pub part_count : p.first ≤ last_row is_lf (take e (take (e - 0) (drop 0 text))) - r
      part_count = rw part-is (omega (arith, part_end))

      abbrev u : List ℕ
      u = (joins (take e t) r b p.first).text

      whole_is : (joins t r b p.first).text ≡ u ++ drop e t
      whole_is = rw end_is (part-whole t r p.first last_in b)

      part_small : length u ≤ e
      part_small = omega (arith, joins-small (take e t) r b p.first (omega (arith, part_end)) (omega (arith, part_end, below_count (take e t) r)), length-take e t)

      used_is : p.used ≡ length u + (used - e)
      used_is = ap (λ (q : Plan). q.used) (sym join-planned) ∙ ap (λ (d : Edited ℕ). length d.text) (sym all_made) ∙ ap length whole_is ∙ simp (length-append, length-drop, length-take) (omega arith)

      pub kept-sizes : (p.used ≤ used) × (used - p.used ≤ e)
      kept-sizes = (omega (arith, used_is, part_small, end-within), omega (arith, used_is, part_small, end-within))

      kept-is : e - (used - p.used) ≡ length u
      kept-is = omega (arith, used_is, part_small, end-within)

      -- the joins made there, and then the rest moved down to them
      pub join-moved : (text₁ text' cols cols' flags flags' : List ℕ)
          → slices text₁ cols' flags' ≡ filled (slices (take (e - 0) (drop 0 text)) cols flags) e (joins (take e (take (e - 0) (drop 0 text))) r b p.first)
          → text' ≡ gap_removed (take 0 text ++ (text₁ ++ drop (e - 0) (drop 0 text))) used (e - (used - p.used)) e
          → slices text' cols' flags' ≡ filled (slices text cols flags) used (joins t r b p.first)
      join-moved text₁ text' cols cols' flags flags' es et =
          let q : slices text₁ cols' flags' ≡ filled (slices (take (e - 0) (drop 0 text)) cols flags) e (joins (take e t) r b p.first) = es ∙ rw part-is in
          let i : (joins (take e t) r b p.first).inverse ≡ (joins t r b p.first).inverse = rw end_is (ap (λ (d : Edited ℕ). d.inverse) (part-joins t r p.first last_in b)) in
          let c : cols' ≡ over (joins t r b p.first).inverse.first cols = ap (λ (s : Slices). s.cols) q ∙ rw i in
          let g : flags' ≡ over (joins t r b p.first).inverse.second flags = ap (λ (s : Slices). s.flags) q ∙ rw i in
          let m : text' ≡ renewed text used (joins t r b p.first).text =
          et ∙ rw (ap (λ (s : Slices). s.text) q, kept-is, whole_is, sub-zero) (moved_down text used e u part_small end-within room) in
          rw (m, c, g)

    pub join-refused : (view : View) (room : Room) (v : Result (Unit {0}) Refusal) → ((e : Edited ℕ) → plan_of e ≡ p → paper v ≡ verdict_of (result_tests true room e)) → (why : Refusal) → v ≡ Err why
        → (x y z op cols flags : List ℕ) → room_of (lent text x y z op cols flags) ≡ room
        → outcome (refused (number_of why) (offset_of why)) text op cols flags ≡ finished true view (lent text x y z op cols flags) d
    join-refused view room v h why e x y z op cols flags er = worked_refused true room d v (h d join-planned) view (lent text x y z op cols flags) er why e

    -- the answer and the slices, once nothing refuses
    module _ (view : View) (eu : view.used ≡ used) (room : Room) (v : Result (Unit {0}) Refusal) (h : (e : Edited ℕ) → plan_of e ≡ p → paper v ≡ verdict_of (result_tests true room e)) (fine : v ≡ Ok tt) where
      pub join-room : (p.first ≤ room.first) × (p.first ≤ room.second)
      join-room =
          let q = worked_fits true room d v (h d join-planned) fine in
          let m : length d.inverse.first ≡ p.first = ap (λ (q : Plan). q.first) join-planned in
          let n : length d.inverse.second ≡ p.second = ap (λ (q : Plan). q.second) join-planned in
          (omega (arith, q.first), omega (arith, q.second, first_is, second_is))

      module _ (next : View) (en : next ≡ record { used = p.used; cursor = at f.row.0 0; changes = (view.changes + 1) % 2 ^ 64 }) where
        answer : record { view = next; inverse = SplitLines f.row; payload = 0; first = p.first; second = p.second } ≡ applied_as view d
        unfolding joined
        answer = rw (en, ← join-planned, found_row text used row f ef)

        pub join-done : (text' cols cols' flags flags' x y z op : List ℕ)
            → slices text' cols' flags' ≡ filled (slices text cols flags) used (joins t f.row.0 b p.first)
            → room_of (lent text x y z op cols flags) ≡ room
            → outcome (done (record { view = next; inverse = SplitLines f.row; payload = 0; first = p.first; second = p.second })) text' op cols' flags'
            ≡ finished true view (lent text x y z op cols flags) d
        join-done text' cols cols' flags flags' x y z op es er =
            let q : slices text' cols' flags' ≡ filled (slices text cols flags) used d = es ∙ ap (filled (slices text cols flags) used) all_made in
            let l : Lent = lent text x y z op cols flags in
            worked_done true room d v (h d join-planned) view l er fine _ text' op cols' flags' answer (rw eu (ap (λ (s : Slices). s.text) q)) (unfold joined in refl) (ap (λ (s : Slices). s.cols) q) (ap (λ (s : Slices). s.flags) q)
