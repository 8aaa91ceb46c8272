-- A cut, and then a payload put in where the cut's start lies in the text that is left.
use mathlib.Core.Path.{◌≡◌, refl, sym, ap, subst, ◌∙◌}
use mathlib.Core.Bool.{true}
use mathlib.Core.List.{List, [], ◌∷◌, ◌++◌}
use Prim.Native.Nat.{ℕ, ◌+◌, ◌-◌, ◌*◌, ◌≤◌}
use native.Mathlib.Omega.{arith}
use borrow.Author.Tests.{le-leb}
use lib.Dec.{leb}
use lib.ListN.{length, take, drop, length-append, length-take, length-drop}
use lib.Seq.{length-take-le}
use Rattle.promise.specs.Paper.{refused}
use Rattle.promise.specs.Slices.{over}
use Rattle.text.specs.declared.Position.{Position}
use Rattle.text.specs.declared.Place.{Place}
use Rattle.text.specs.Rows.{◌⊕◌, earlier, clamp, offset, place, end_of}
use Rattle.text.specs.Text.{is_lf, renewed}
use Rattle.text.proofs.Texts.{front}
use Rattle.text.proofs.Renewed.{renewed-text, renewed-twice}
use Rattle.text.proofs.Spots.{offset-le, place-within}
use Rattle.edit.specs.declared.View.{View}
use Rattle.edit.specs.declared.MotionKind.TheVariants.{Char}
use Rattle.edit.specs.declared.Edit.TheVariants.{InsertStr, DeleteRange, Replace}
use Rattle.edit.specs.declared.Refusal.{Refusal}
use Rattle.edit.specs.declared.Room.{Room}
use Rattle.edit.specs.declared.Plan.{Plan}
use Rattle.edit.specs.Edits.{Edited, cut_to, inserted, chars_deleted, range_deleted, replaced, edited_by}
use Rattle.edit.specs.Refusals.{room_ok, record_ok}
use Rattle.edit.specs.Call.{paper, number_of, offset_of, verdict_of, Lent, lent, outcome, result_of, result_tests, room_of, plan_of, applied_as, finished}
use Rattle.edit.proofs.Workers.{worked_fits, worked_refused, worked_done}
use Rattle.steps.specs.declared.Resolved.{Resolved}
use Rattle.steps.specs.Steps.{woven, cut_of}
use Rattle.steps.specs.Numbers.{steps_of, passed_by, come_by, cut_by, size_by}
use Rattle.steps.specs.Resolves.{Resolves}
use Rattle.steps.proofs.Planned.{planned_passed, planned_text, planned_cut, planned}
use Rattle.single.proofs.Resolving.{inserting, insert-resolves}
use Rattle.work.specs.Answers.{done_as}
use Rattle.work.specs.declared.Inserted.{Inserted}
use Rattle.work.proofs.Working.{agreed}
use Rattle.std.specs.Prelude.{Result, Ok, Err}
use Rattle.edit.specs.declared.Applied.{Applied}

inserted-length : (t : List ℕ) (p : Position) (x : List ℕ) → length (inserted is_lf t p x).text ≡ length t + length x
unfolding inserted
inserted-length t p x =
    let o : ℕ = offset is_lf t p in
    omega (arith, offset-le is_lf t p, length-append (take o t) (x ++ drop o t), length-append x (drop o t), length-take o t, length-drop o t)

module _ (v : View) (b x : List ℕ) (p q : Position) (h : v.used ≤ length b) (r : Resolved) (l : List ℕ) (R₀ : Resolves r l (DeleteRange p q Char) x [] [] (take (v.used - 0) (drop 0 b))) where
  abbrev t : List ℕ
  t = take v.used b

  -- what the cut leaves
  abbrev u : List ℕ
  u = (chars_deleted is_lf t p q).text

  abbrev i : Edited ℕ
  i = inserted is_lf u (earlier p q) x

  abbrev d : Edited ℕ
  d = replaced is_lf t p q x

  R : Resolves r l (DeleteRange p q Char) x [] [] t
  R = subst (λ (s : List ℕ). Resolves r l (DeleteRange p q Char) x [] [] s) (front b v.used) R₀

  long : length t ≡ v.used
  long = length-take-le v.used b h

  pub cut_passed : passed_by r.steps l ≤ v.used
  cut_passed = omega (arith, planned_passed r l (DeleteRange p q Char) x [] [] t R, long)

  pub cut_passed-lent : passed_by r.steps l ≤ length (take (v.used - 0) (drop 0 b))
  cut_passed-lent = omega (arith, cut_passed, ap length (front b v.used), long)

  cut_plan : plan_of (chars_deleted is_lf t p q) ≡ record { used = size_by r.steps l 0 v.used; payload = cut_by r.steps l; first = r.first; second = r.second }
  unfolding edited_by range_deleted
  cut_plan = planned r l (DeleteRange p q Char) x [] [] t R ∙ ap (λ (n : ℕ). record { used = size_by r.steps l 0 n; payload = cut_by r.steps l; first = r.first; second = r.second }) long

  module _ (left gone : ℕ) (el : left ≡ size_by r.steps l 0 v.used) (eg : gone ≡ cut_by r.steps l) where
    left_is : length u ≡ left
    left_is = ap (λ (p : Plan). p.used) cut_plan ∙ sym el

    -- nothing comes
    pub cut_small : left ≤ v.used
    unfolding chars_deleted
    cut_small =
        let a : ℕ = offset is_lf t (earlier p q) in
        omega (arith, left_is, length-append (take a t) (drop (cut_to is_lf t p q) t), length-take a t, length-drop (cut_to is_lf t p q) t, long)

    pub replace_plan : plan_of d ≡ record { used = left + length x; payload = gone; first = 0; second = 0 }
    unfolding replaced chars_deleted
    replace_plan =
        let n : length i.text ≡ left + length x = inserted-length u (earlier p q) x ∙ ap (λ (k : ℕ). k + length x) left_is in
        let m : length (chars_deleted is_lf t p q).inverse.payload ≡ gone = ap (λ (p : Plan). p.payload) cut_plan ∙ sym eg in
        rw (n, m)

    module _ (T : Room) (w : Result (Unit {0}) Refusal) (hw : (d : Edited ℕ) → plan_of d ≡ record { used = left + length x; payload = gone; first = 0; second = 0 } → paper w ≡ verdict_of (result_tests true T d)) where
      judged : paper w ≡ verdict_of (result_tests true T d)
      judged = hw d replace_plan

      -- the inverse has no lists, so any room for them will do
      judged_in : (o : List ℕ) (L : Lent) → L.buffer ≡ b → L.out_payload ≡ o → T.buffer ≡ length b → T.payload ≡ length o → paper w ≡ verdict_of (result_tests true (room_of L) d)
      unfolding room_ok record_ok replaced chars_deleted
      judged_in o L q₁ q₂ et ep =
          let m : T.buffer ≡ length L.buffer = et ∙ sym (ap length q₁) in
          let n : T.payload ≡ length L.out_payload = ep ∙ sym (ap length q₂) in
          let f : leb (length d.inverse.first) T.first ≡ true = le-leb 0 T.first (omega arith) in
          let s : leb (length d.inverse.second) T.second ≡ true = le-leb 0 T.second (omega arith) in
          let g : leb (length d.inverse.first) (length L.out_first) ≡ true = le-leb 0 (length L.out_first) (omega arith) in
          let k : leb (length d.inverse.second) (length L.out_second) ≡ true = le-leb 0 (length L.out_second) (omega arith) in
          rw (g, k) (rw (m, n, f, s) at judged)

      pub replace_fits : w ≡ Ok tt → (left + length x ≤ T.buffer) × (left + length x ≤ 16_384) × (gone ≤ T.payload)
      replace_fits z =
          let F = worked_fits true T d w judged z in
          let n : length d.text ≡ left + length x = ap (λ (p : Plan). p.used) replace_plan in
          let m : length d.inverse.payload ≡ gone = ap (λ (p : Plan). p.payload) replace_plan in
          (omega (arith, F.buffer), omega (arith, F.limit), omega (arith, F.payload))

      pub replace_refused : (why : Refusal) → w ≡ Err why → (o : List ℕ) → T.buffer ≡ length b → T.payload ≡ length o → (L : Lent) → L.buffer ≡ b → L.payload ≡ x → L.out_payload ≡ o
          → outcome (refused (number_of why) (offset_of why)) b o L.out_first L.out_second ≡ finished true v L (result_of v (Replace p q) L)
      unfolding result_of edited_by
      replace_refused why z o et ep L q₁ q₂ q₃ =
          let M = lent b x L.first L.second o L.out_first L.out_second in
          subst (λ (L : Lent). outcome (refused (number_of why) (offset_of why)) b o L.out_first L.out_second ≡ finished true v L (result_of v (Replace p q) L))
          (agreed b x L.first L.second o L.out_first L.out_second L q₁ q₂ refl refl q₃ refl refl)
          (worked_refused true (room_of M) d w (judged_in o M refl refl et ep) v M refl why z)

      -- the buffer and the payload's slice once the cut is made
      module _ (b₁ o o' : List ℕ) (e₁ : b₁ ≡ renewed b v.used (woven r.made (steps_of r.steps l x) t)) (eo : o' ≡ over (cut_of (steps_of r.steps l x) (take (v.used - 0) (drop 0 b))) o) where
        cut_text : b₁ ≡ renewed b v.used u
        unfolding edited_by range_deleted
        cut_text = e₁ ∙ ap (renewed b v.used) (planned_text r l (DeleteRange p q Char) x [] [] t R)

        cut_record : o' ≡ over d.inverse.payload o
        unfolding edited_by range_deleted replaced chars_deleted
        cut_record = eo ∙ ap (λ (s : List ℕ). over (cut_of (steps_of r.steps l x) s) o) (front b v.used) ∙ ap (λ (y : List ℕ). over y o) (planned_cut r l (DeleteRange p q Char) x [] [] t R)

        cut_left : take left b₁ ≡ u
        cut_left = ap (λ (n : ℕ). take n b₁) (sym left_is) ∙ ap (take (length u)) cut_text ∙ renewed-text b v.used u

        -- and once the payload is in
        module _ (s : Position) (es : s ≡ earlier p q) (b₂ : List ℕ) (e₂ : b₂ ≡ renewed b₁ left (inserted is_lf (take left b₁) s x).text) where
          in_left : inserted is_lf (take left b₁) s x ≡ i
          in_left = rw (cut_left, es)

          put-text : w ≡ Ok tt → T.buffer ≡ length b → b₂ ≡ renewed b v.used d.text
          unfolding replaced chars_deleted
          put-text k et =
              let F = replace_fits k in
              let n : length i.text ≡ left + length x = inserted-length u (earlier p q) x ∙ ap (λ (k : ℕ). k + length x) left_is in
              e₂ ∙ ap (λ (D : Edited ℕ). renewed b₁ left D.text) in_left ∙ ap (λ (y : List ℕ). renewed y left i.text) cut_text ∙ ap (λ (n : ℕ). renewed (renewed b v.used u) n i.text) (sym left_is)
              ∙ renewed-twice b v.used u i.text (omega (arith, n, left_is)) h (omega (arith, F.0, n))

          pub replace_done : w ≡ Ok tt → T.buffer ≡ length b → T.payload ≡ length o → (g z : Position) → g ≡ clamp is_lf (take left b₁) s → z ≡ (inserted is_lf (take left b₁) s x).cursor
              → (a : Result Applied Refusal) → a ≡ Ok (done_as v (record { used = left + length x; payload = gone; first = 0; second = 0 }) z (Replace g z))
              → (L : Lent) → L.buffer ≡ b → L.payload ≡ x → L.out_payload ≡ o → outcome (paper a) b₂ o' L.out_first L.out_second ≡ finished true v L (result_of v (Replace p q) L)
          unfolding result_of edited_by replaced chars_deleted
          replace_done k et ep g z eg ez a ea L q₁ q₂ q₃ =
              let m : g ≡ clamp is_lf u (earlier p q) = eg ∙ rw (cut_left, es) in
              let n : z ≡ i.cursor = ez ∙ ap (λ (D : Edited ℕ). D.cursor) in_left in
              let e_a : done_as v (record { used = left + length x; payload = gone; first = 0; second = 0 }) z (Replace g z) ≡ applied_as v d =
              ap (λ (P : Plan). done_as v P z (Replace g z)) (sym replace_plan) ∙ ap (λ (c : Position). done_as v (plan_of d) c (Replace g c)) n ∙ ap (λ (c : Position). done_as v (plan_of d) i.cursor (Replace c i.cursor)) m in
              subst (λ (L : Lent). outcome (paper a) b₂ o' L.out_first L.out_second ≡ finished true v L (result_of v (Replace p q) L))
              (agreed b x L.first L.second o L.out_first L.out_second L q₁ q₂ refl refl q₃ refl refl)
              (let M = lent b x L.first L.second o L.out_first L.out_second in rw ea (worked_done true (room_of M) d w (judged_in o M refl refl et ep) v M refl k _ b₂ o' L.out_first L.out_second e_a (put-text k et) cut_record refl refl))

-- ---- a payload put in

module _ (b x : List ℕ) (used : ℕ) (p : Position) (h : used ≤ length b) (g : Place) (z : Position) (eg : g ≡ place is_lf (take (used - 0) (drop 0 b)) p) (ez : z ≡ g.pos ⊕ end_of is_lf x) where
  abbrev before : List ℕ
  before = take used b

  found : g ≡ place is_lf before p
  found = eg ∙ ap (λ (y : List ℕ). place is_lf y p) (front b used)

  pub put-within : (g.pos.row.0 ≤ used) × (g.pos.col.0 ≤ used) × (g.at.0 ≤ used)
  put-within =
      let n = length-take-le used b h in
      let k = place-within is_lf before p g found in
      (omega (arith, k.0), omega (arith, k.1), omega (arith, k.2))

  module _ (l₀ l : List ℕ) (hl : 5 ≤ length l₀) (el : l ≡ g.at.0 ∷ 0 ∷ 0 ∷ length x ∷ 0 ∷ drop 5 l₀) where
    S : Resolves (inserting before x [] [] l₀ p g.pos z) l (InsertStr p) x [] [] before
    S = insert-resolves before x [] [] l₀ p g z g.at.0 (length x) l found ez refl refl hl el

    pub put-asks : (5 * 1 ≤ length l) × (come_by 1 l ≤ length x) × (passed_by 1 l ≤ used) × (used + length x ≡ size_by 1 l 0 used)
    unfolding edited_by
    put-asks =
        let n = length-take-le used b h in
        let P = planned (inserting before x [] [] l₀ p g.pos z) l (InsertStr p) x [] [] before S in (
          S.numbers,
          S.come,
          omega (arith, planned_passed (inserting before x [] [] l₀ p g.pos z) l (InsertStr p) x [] [] before S),
          sym (inserted-length before p x ∙ ap (λ (k : ℕ). k + length x) n) ∙ ap (λ (p : Plan). p.used) P ∙ ap (size_by 1 l 0) n,
        )

    pub put_in : (b' : List ℕ) → b' ≡ renewed b used (woven 32 (steps_of 1 l x) before) → b' ≡ renewed b used (inserted is_lf before p x).text
    unfolding edited_by
    put_in b' e = e ∙ ap (renewed b used) (planned_text (inserting before x [] [] l₀ p g.pos z) l (InsertStr p) x [] [] before S)

    pub put-found : ◌≡◌ {A = Inserted} (record { start = g.pos; end = z }) (record { start = clamp is_lf before p; end = (inserted is_lf before p x).cursor })
    unfolding edited_by
    put-found =
        let e : g.pos ≡ clamp is_lf before p = ap (λ (g : Place). g.pos) found in
        let k : z ≡ (inserted is_lf before p x).cursor = S.cursor in
        rw (e, k)

module _ (I : Inserted) (g z : Position) (e : I ≡ record { start = g; end = z }) where
  pub put-start : I.start ≡ g
  put-start = ap (λ (I : Inserted). I.start) e

  pub put-end : I.end ≡ z
  put-end = ap (λ (I : Inserted). I.end) e
