-- The worker's answer, from what its callees find and leave.
use mathlib.Core.Path.{◌≡◌, sym, ap, subst, ◌∙◌}
use mathlib.Core.Bool.{Bool, true, false, cond}
use mathlib.Core.List.{List}
use Prim.Native.Nat.{ℕ, ◌-◌, ◌*◌, ◌≤◌}
use native.Mathlib.Omega.{arith}
use lib.ListN.{length, take, drop}
use lib.Seq.{length-take-le}
use Rattle.promise.specs.Paper.{refused}
use Rattle.promise.specs.Slices.{over}
use Rattle.text.specs.declared.Position.{Position}
use Rattle.text.specs.Rows.{clamp}
use Rattle.text.specs.Text.{is_lf, renewed}
use Rattle.text.proofs.Texts.{front}
use Rattle.text.proofs.Renewed.{renewed-text}
use Rattle.edit.specs.declared.View.{View}
use Rattle.edit.specs.declared.Edit.{Edit}
use Rattle.edit.specs.declared.Refusal.{Refusal}
use Rattle.edit.specs.declared.Room.{Room}
use Rattle.edit.specs.declared.Plan.{Plan}
use Rattle.edit.specs.Edits.{Edited, edited_by}
use Rattle.edit.specs.Refusals.{is_space, spaces, within_ok}
use Rattle.edit.specs.Call.{paper, number_of, offset_of, verdict_of, Lent, lent, outcome, text_of, result_of, result_tests, plan_of, applied_as, finished}
use Rattle.edit.proofs.Workers.{worked_fits, worked_refused, worked_done}
use Rattle.steps.specs.declared.Resolved.{Resolved}
use Rattle.steps.specs.Steps.{woven, cut_of}
use Rattle.steps.specs.Numbers.{steps_of, passed_by, laid_by, come_by, cut_by, size_by}
use Rattle.steps.specs.Resolves.{Resolves}
use Rattle.steps.proofs.Planned.{planned_passed, planned_text, planned_cut, planned}
use Rattle.steps.proofs.Sums.{steps_count}
use Rattle.recording.specs.declared.Sums.{Sums}
use Rattle.recording.specs.Recorded.{first_by, second_by, first_long, second_long, sums_of}
use Rattle.recording.proofs.Inverses.{first_count, second_count, first_made, second_made}
use Rattle.resolve.specs.Admits.{Admitted, cut_first}
use Rattle.work.specs.Answers.{done_as}
use Rattle.std.specs.Prelude.{Result, Ok, Err}
use Rattle.edit.specs.declared.Applied.{Applied}

-- the cursor, from where it is clamped
pub cursor_kept : (t : List ℕ) (c : Position) (b : Bool) → b ≡ true → c ≡ cond b c (clamp is_lf t c)
cursor_kept t c b e = rw e

pub cursor_clamped : (t : List ℕ) (c d : Position) (b : Bool) → b ≡ false → d ≡ clamp is_lf t c → d ≡ cond b c (clamp is_lf t c)
cursor_clamped t c d b e h = rw e h

-- how long the front of a buffer is
pub front_long : (b : List ℕ) (used : ℕ) → used ≤ length b → length (take (used - 0) (drop 0 b)) ≡ used
front_long b used h = ap length (front b used) ∙ length-take-le used b h

-- the sums, one by one and as a plan
module _ (S : Sums) (t l x : List ℕ) (n v : ℕ) (e : S ≡ sums_of t l n v x) where
  pub sums_used : (used : ℕ) → length t ≡ used → S.used ≡ size_by n l 0 used
  sums_used used h = ap (λ (S : Sums). S.used) e ∙ ap (size_by n l 0) h

  pub sums_cut : S.cut ≡ cut_by n l
  sums_cut = ap (λ (S : Sums). S.cut) e

pub sums_planned : (S : Sums) (r : Resolved) (t l x : List ℕ) → S ≡ sums_of t l r.steps r.made x
    → ◌≡◌ {A = Plan} (record { used = S.used; payload = S.cut; first = r.first; second = r.second }) (record { used = size_by r.steps l 0 (length t); payload = cut_by r.steps l; first = r.first; second = r.second })
sums_planned S r t l x e = rw e

-- what is lent, by its parts
pub agreed : (b x f s op of os : List ℕ) (l : Lent) → l.buffer ≡ b → l.payload ≡ x → l.first ≡ f → l.second ≡ s → l.out_payload ≡ op → l.out_first ≡ of → l.out_second ≡ os → lent b x f s op of os ≡ l
agreed b x f s op of os l e₁ e₂ e₃ e₄ e₅ e₆ e₇ = rw (← e₁, ← e₂, ← e₃, ← e₄, ← e₅, ← e₆, ← e₇)

-- what the callees ask for, once nothing refuses
pub record Asks (v : View) (e : Edit) (b f : List ℕ) (r : Resolved) (l : List ℕ) (p : Plan) (op of os : List ℕ) : Type 0 where
  pub size : p.used ≡ size_by r.steps l 0 v.used
  pub room : p.used ≤ length b
  pub limit : p.used ≤ 16_384
  pub passed : passed_by r.steps l ≤ v.used
  pub passed-lent : passed_by r.steps l ≤ length (take (v.used - 0) (drop 0 b))
  pub cut : cut_by r.steps l ≤ length op
  pub laid : laid_by r.steps l ≤ 16_384
  pub firsts : first_long e (length f) r.steps ≤ length of
  pub seconds : second_long e (length f) r.steps ≤ length os

-- what the resolver is lent
pub text-lent : (e : Edit) (b x f s : List ℕ) (used : ℕ) → used ≤ length b → used ≤ 16_384 → Admitted e x f s (take used b)
    → (length (take (used - 0) (drop 0 b)) ≤ 16_384) × Admitted e x f s (take (used - 0) (drop 0 b))
text-lent e b x f s used h k A = rw (front b used) (omega (arith, length-take-le used b h), A)

module _ (v : View) (e : Edit) (b x f s : List ℕ) (h : v.used ≤ length b) (r : Resolved) (l : List ℕ) (same : cut_first e ≡ e) (R₀ : Resolves r l (cut_first e) x f s (take (v.used - 0) (drop 0 b))) where
  abbrev t : List ℕ
  t = take v.used b

  abbrev d : Edited ℕ
  d = edited_by is_lf is_space spaces e x f s t

  R : Resolves r l e x f s t
  R = subst (λ (g : Edit). Resolves r l g x f s t) same (subst (λ (u : List ℕ). Resolves r l (cut_first e) x f s u) (front b v.used) R₀)

  long : length t ≡ v.used
  long = length-take-le v.used b h

  lent-long : length (take (v.used - 0) (drop 0 b)) ≡ v.used
  lent-long = front_long b v.used h

  module _ (p : Plan) (ep : p ≡ record { used = size_by r.steps l 0 (length (take (v.used - 0) (drop 0 b))); payload = cut_by r.steps l; first = r.first; second = r.second }) where
    size_is : p.used ≡ size_by r.steps l 0 v.used
    size_is = ap (λ (p : Plan). p.used) ep ∙ ap (size_by r.steps l 0) lent-long

    plan_is : plan_of d ≡ p
    plan_is = planned r l e x f s t R ∙ ap (λ (n : ℕ). record { used = size_by r.steps l 0 n; payload = cut_by r.steps l; first = r.first; second = r.second }) (long ∙ sym lent-long) ∙ sym ep

    module _ (T : Room) (w : Result (Unit {0}) Refusal) (hw : (d : Edited ℕ) → plan_of d ≡ p → paper w ≡ verdict_of (result_tests r.within T d)) where
      judged : paper w ≡ verdict_of (result_tests (within_ok t e f s) T d)
      judged = hw d plan_is ∙ ap (λ (q : Bool). verdict_of (result_tests q T d)) R.within

      fits : w ≡ Ok tt → (p.used ≤ T.buffer) × (p.used ≤ 16_384) × (p.payload ≤ T.payload) × (p.first ≤ T.first) × (p.second ≤ T.second)
      fits q =
          let F = worked_fits (within_ok t e f s) T d w judged q in
          let u : length d.text ≡ p.used = ap (λ (p : Plan). p.used) plan_is in
          let y : length d.inverse.payload ≡ p.payload = ap (λ (p : Plan). p.payload) plan_is in
          let g : length d.inverse.first ≡ p.first = ap (λ (p : Plan). p.first) plan_is in
          let k : length d.inverse.second ≡ p.second = ap (λ (p : Plan). p.second) plan_is in
          (omega (arith, F.buffer), omega (arith, F.limit), omega (arith, F.payload), omega (arith, F.first), omega (arith, F.second))

      pub work_asks : (op of os : List ℕ) → T ≡ record { buffer = length b; payload = length op; first = length of; second = length os } → w ≡ Ok tt → Asks v e b f r l p op of os
      work_asks op of os e_t q =
          let F = fits q in
          let A = planned_passed r l e x f s t R in
          let u : T.buffer ≡ length b = ap (λ (T : Room). T.buffer) e_t in
          let y : T.payload ≡ length op = ap (λ (T : Room). T.payload) e_t in
          let g : T.first ≡ length of = ap (λ (T : Room). T.first) e_t in
          let k : T.second ≡ length os = ap (λ (T : Room). T.second) e_t in
          let c : p.payload ≡ cut_by r.steps l = ap (λ (p : Plan). p.payload) ep in
          let m : p.first ≡ first_long e (length f) r.steps = ap (λ (p : Plan). p.first) ep ∙ R.first ∙ first_count is_lf is_space spaces e x f s t r.steps (steps_of r.steps l x) (steps_count r.steps l x) R.steps in
          let n : p.second ≡ second_long e (length f) r.steps = ap (λ (p : Plan). p.second) ep ∙ R.second ∙ second_count is_lf is_space spaces e x f s t r.steps (steps_of r.steps l x) (steps_count r.steps l x) R.steps in
          record {
            size = size_is;
            room = omega (arith, F.0, u);
            limit = F.1;
            passed = omega (arith, A, long);
            passed-lent = omega (arith, A, long, lent-long);
            cut = omega (arith, F.2, y, c);
            laid = omega (arith, F.1, size_is);
            firsts = omega (arith, F.3, g, m);
            seconds = omega (arith, F.4, k, n);
          }

      pub work_come : come_by r.steps l ≤ length x
      work_come = R.come

      -- what `record_lists` leaves are the inverse's lists
      pub work_firsts : (of of' : List ℕ) → of' ≡ over (first_by e f r.start.0 (steps_of r.steps l x)) of → of' ≡ over d.inverse.first of
      work_firsts of of' q = q ∙ ap (λ (y : List ℕ). over y of) (first_made is_lf is_space spaces e x f s t r.steps (steps_of r.steps l x) (steps_count r.steps l x) R.steps r.start.0 R.start)

      pub work_seconds : (os os' : List ℕ) → os' ≡ over (second_by e (length f) (steps_of r.steps l x)) os → os' ≡ over d.inverse.second os
      work_seconds os os' q = q ∙ ap (λ (y : List ℕ). over y os) (second_made is_lf is_space spaces e x f s t r.steps (steps_of r.steps l x) (steps_count r.steps l x) R.steps)

      pub work_numbers : 5 * r.steps ≤ length l
      work_numbers = R.numbers

      module _ (op of os : List ℕ) (e_t : T ≡ record { buffer = length b; payload = length op; first = length of; second = length os }) (L : Lent) (e₁ : L.buffer ≡ b) (e₂ : L.payload ≡ x) (e₃ : L.first ≡ f) (e₄ : L.second ≡ s) (e₅ : L.out_payload ≡ op) (e₆ : L.out_first ≡ of) (e₇ : L.out_second ≡ os) where
        q : lent b x f s op of os ≡ L
        q = agreed b x f s op of os L e₁ e₂ e₃ e₄ e₅ e₆ e₇

        pub work_refused : (why : Refusal) → w ≡ Err why → outcome (refused (number_of why) (offset_of why)) b op of os ≡ finished (within_ok (text_of v L) e L.first L.second) v L (result_of v e L)
        unfolding result_of
        work_refused why z =
            subst (λ (L : Lent). outcome (refused (number_of why) (offset_of why)) b op of os ≡ finished (within_ok (text_of v L) e L.first L.second) v L (result_of v e L)) q
            (worked_refused (within_ok t e f s) T d w judged v (lent b x f s op of os) (sym e_t) why z)

        pub work_done : w ≡ Ok tt → (a : Result Applied Refusal) (c : Position) (b' op' of' os' : List ℕ) → a ≡ Ok (done_as v p c r.inverse)
            → c ≡ cond r.settled r.cursor (clamp is_lf (take (p.used - 0) (drop 0 b')) r.cursor)
            → b' ≡ renewed b v.used (woven r.made (steps_of r.steps l x) t)
            → op' ≡ over (cut_of (steps_of r.steps l x) (take (v.used - 0) (drop 0 b))) op
            → of' ≡ over d.inverse.first of → os' ≡ over d.inverse.second os
            → outcome (paper a) b' op' of' os' ≡ finished (within_ok (text_of v L) e L.first L.second) v L (result_of v e L)
        unfolding result_of
        work_done z a c b' op' of' os' ea ec eb eo ef es =
            let et : b' ≡ renewed b v.used d.text = eb ∙ ap (renewed b v.used) (planned_text r l e x f s t R) in
            let ey : op' ≡ over d.inverse.payload op = eo ∙ ap (λ (u : List ℕ). over (cut_of (steps_of r.steps l x) u) op) (front b v.used) ∙ ap (λ (y : List ℕ). over y op) (planned_cut r l e x f s t R) in
            let eu : length d.text ≡ p.used = ap (λ (p : Plan). p.used) plan_is in
            let en : take (p.used - 0) (drop 0 b') ≡ d.text = front b' p.used ∙ ap (λ (n : ℕ). take n b') (sym eu) ∙ ap (take (length d.text)) et ∙ renewed-text b v.used d.text in
            let ek : c ≡ d.cursor = ec ∙ ap (λ (u : List ℕ). cond r.settled r.cursor (clamp is_lf u r.cursor)) en ∙ R.cursor in
            let e_a : done_as v p c r.inverse ≡ applied_as v d = rw (ek, R.inverse, ← plan_is) in
            subst (λ (L : Lent). outcome (paper a) b' op' of' os' ≡ finished (within_ok (text_of v L) e L.first L.second) v L (result_of v e L)) q
            (rw ea (worked_done (within_ok t e f s) T d w judged v (lent b x f s op of os) (sym e_t) z (done_as v p c r.inverse) b' op' of' os' e_a et ey ef es))
