-- The worker for splits: its plan is the edit's, and what it stores is what the edit leaves.
use mathlib.Core.Path.{◌≡◌, refl, sym, ap, ◌∙◌}
use mathlib.Core.Bool.{Bool}
use mathlib.Core.List.{List, ◌++◌}
use Prim.Native.Nat.{ℕ, ◌+◌, ◌-◌, ◌%◌, ◌^◌, ◌≤◌, min}
use native.Mathlib.Nat.{sub-zero}
use native.Mathlib.Omega.{arith}
use lib.ListN.{length, take, drop, length-append, length-take, length-drop}
use Rattle.promise.specs.Paper.{done, refused}
use Rattle.text.specs.declared.Span.{Span}
use Rattle.text.specs.declared.Row.{Row}
use Rattle.text.specs.Rows.{last_row, row_end, span, at}
use Rattle.text.specs.Text.{is_lf, renewed}
use Rattle.text.proofs.Texts.{front}
use Rattle.edit.specs.declared.View.{View}
use Rattle.edit.specs.declared.Edit.TheVariants.{JoinLines, SplitLines}
use Rattle.edit.specs.declared.Refusal.{Refusal}
use Rattle.edit.specs.declared.Room.{Room}
use Rattle.edit.specs.declared.Plan.{Plan}
use Rattle.edit.specs.Edits.{Edited, split, any_flag}
use Rattle.edit.specs.Refusals.{is_space, spaces, within_ok}
use Rattle.edit.specs.Call.{paper, number_of, offset_of, verdict_of, result_tests, plan_of, lent, room_of, outcome, applied_as, finished}
use Rattle.text.proofs.Walks.{found_row, found_again, span-parts, span-within}
use Rattle.splice.proofs.Rooms.{opened, opened-length, opened-front, moved_up}
use Rattle.edit.proofs.Workers.{worked_fits, worked_refused, worked_done}
use Rattle.joins.specs.declared.SplitPlan.{SplitPlan}
use Rattle.joins.proofs.SplitTurns.{splits_none, splits_grow}
use Rattle.joins.proofs.SplitLocal.{row_span_lem, row_split}
use Rattle.std.specs.Prelude.{Result, Ok, Err}

module _ (text : List ℕ) (used : ℕ) (row : Row) (cs fs : List ℕ) (f : Span) (ef : f ≡ span is_lf (take (used - 0) (drop 0 text)) row.0) where
  abbrev t : List ℕ
  t = take used text

  abbrev d : Edited ℕ
  d = split is_lf is_space spaces t row.0 cs fs

  again : min (min row.0 (last_row is_lf t)) (last_row is_lf t) ≡ min row.0 (last_row is_lf t)
  again = omega arith

  same_split : split is_lf is_space spaces t f.row.0 cs fs ≡ d
  unfolding split
  same_split = rw (found_row text used row.0 f ef, again)

  same_within : within_ok t (SplitLines f.row) cs fs ≡ within_ok t (SplitLines row) cs fs
  unfolding within_ok
  same_within = rw (found_row text used row.0 f ef, again)

  module _ (p : SplitPlan) (ep : p ≡ record { within = within_ok (take (used - 0) (drop 0 text)) (SplitLines f.row) cs fs; sizes = plan_of (split is_lf is_space spaces (take (used - 0) (drop 0 text)) f.row.0 cs fs) }) where
    within-is : p.within ≡ within_ok t (SplitLines row) cs fs
    within-is = ap (λ (q : SplitPlan). q.within) ep ∙ rw (front text used) same_within

    pub split-planned : plan_of d ≡ p.sizes
    split-planned = sym (ap (λ (q : SplitPlan). q.sizes) ep ∙ rw (front text used, same_split))

    module _ (view : View) (room : Room) (v : Result (Unit {0}) Refusal) (h : (e : Edited ℕ) → plan_of e ≡ p.sizes → paper v ≡ verdict_of (result_tests p.within room e)) where
      judged : paper v ≡ verdict_of (result_tests (within_ok t (SplitLines row) cs fs) room d)
      judged = h d split-planned ∙ rw within-is

      pub split-refused : (why : Refusal) → v ≡ Err why → (x y z op of os : List ℕ) → room_of (lent text x y z op of os) ≡ room
          → outcome (refused (number_of why) (offset_of why)) text op of os ≡ finished (within_ok t (SplitLines row) cs fs) view (lent text x y z op of os) d
      split-refused why e x y z op of os er = worked_refused (within_ok t (SplitLines row) cs fs) room d v judged view (lent text x y z op of os) er why e

      module _ (fine : v ≡ Ok tt) where
        split-room : length (split is_lf is_space spaces t f.row.0 cs fs).text ≤ room.buffer
        split-room = rw same_split (worked_fits (within_ok t (SplitLines row) cs fs) room d v judged fine).buffer

        -- the splits made on the text up to where the row ends, once room for them is opened there
        module _ (eb : room.buffer ≡ length text) (eu : used ≤ length text) where
          abbrev r : ℕ
          r = f.row.0

          abbrev e : ℕ
          e = f.end.0

          abbrev m : ℕ
          m = p.sizes.used - used

          found : f ≡ span is_lf t r
          found = found_again text used row.0 f ef

          row_in : r ≤ last_row is_lf t
          row_in = (span-parts t f found).0

          end_is : e ≡ row_end is_lf t r
          end_is = (span-parts t f found).2

          size_is : p.sizes.used ≡ length (split is_lf is_space spaces t r cs fs).text
          size_is = ap (λ (q : Plan). q.used) (sym split-planned) ∙ rw same_split

          pub split-sizes : (e ≤ used) × (used ≤ p.sizes.used) × (p.sizes.used ≤ length text)
          split-sizes =
              let l = length-take used text in
              (omega (arith, (span-within t r f found).1), omega (arith, size_is, splits_grow t r row_in cs fs (length cs) (omega arith), ap length (splits_none t r row_in cs fs)), omega (arith, split-room, size_is))

          opens : used + m ≤ length text
          opens = omega (arith, split-sizes)

          abbrev w : List ℕ
          w = (split is_lf is_space spaces (take e t) r cs fs).text

          whole_is : (split is_lf is_space spaces t r cs fs).text ≡ w ++ drop e t
          whole_is = rw end_is (row_split t r row_in cs fs)

          part-size : length w ≡ e + m
          part-size =
              let l : length (drop e t) ≡ used - e = simp (length-drop, length-take) (omega arith) in
              omega (arith, split-sizes, size_is, ap length whole_is, length-append w (drop e t))

          module _ (text₁ : List ℕ) (e₁ : text₁ ≡ opened text used e m) where
            part-is : take e (take (e + m - 0) (drop 0 text₁)) ≡ take e t
            part-is = rw (front text₁ (e + m), e₁) (opened-front text used e m split-sizes.0 opens)

            part_length : length (take (e + m - 0) (drop 0 text₁)) ≡ e + m
            part_length = rw (front text₁ (e + m), e₁) (opened-length text used e m split-sizes.0 opens)

            pub split-lent : (e ≤ length (take (e + m - 0) (drop 0 text₁))) × (f ≡ span is_lf (take e (take (e + m - 0) (drop 0 text₁))) r)
                × (length (split is_lf is_space spaces (take e (take (e + m - 0) (drop 0 text₁))) r cs fs).text ≤ length (take (e + m - 0) (drop 0 text₁)))
            split-lent = (omega (arith, part_length), found ∙ rw (part-is, end_is) (sym (row_span_lem t r row_in)), rw part-is (omega (arith, part_length, part-size)))

            pub split-moved : (text₂ : List ℕ) → text₂ ≡ renewed (take (e + m - 0) (drop 0 text₁)) e (split is_lf is_space spaces (take e (take (e + m - 0) (drop 0 text₁))) r cs fs).text
                → take 0 text₁ ++ (text₂ ++ drop (e + m - 0) (drop 0 text₁)) ≡ renewed text used (split is_lf is_space spaces t r cs fs).text
            split-moved text₂ e₂ = rw (e₂, part-is, whole_is, sub-zero, e₁) (moved_up text used e m split-sizes.0 opens w part-size)

        module _ (eu : view.used ≡ used) (next : View) (en : next ≡ record { used = p.sizes.used; cursor = at f.row.0 0; changes = (view.changes + 1) % 2 ^ 64 }) (b : Bool) (eb : b ≡ any_flag fs) where
          answer : record { view = next; inverse = JoinLines f.row (length cs) b; payload = 0; first = 0; second = 0 } ≡ applied_as view d
          unfolding split
          answer = rw (en, eb, ← split-planned, found_row text used row.0 f ef)

          pub split_done : (text' x y z op of os : List ℕ) → text' ≡ renewed text used (split is_lf is_space spaces t f.row.0 cs fs).text → room_of (lent text x y z op of os) ≡ room
              → outcome (done (record { view = next; inverse = JoinLines f.row (length cs) b; payload = 0; first = 0; second = 0 })) text' op of os
              ≡ finished (within_ok t (SplitLines row) cs fs) view (lent text x y z op of os) d
          split_done text' x y z op of os et er =
              worked_done (within_ok t (SplitLines row) cs fs) room d v judged view (lent text x y z op of os) er fine _ text' op of os answer (rw eu (et ∙ rw same_split)) (unfold split in refl) (unfold split in refl) (unfold split in refl)
