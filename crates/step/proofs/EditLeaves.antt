-- What the parts of an edit line leave in slices is what the line does.
use mathlib.Core.Path.{◌≡◌, refl, sym, ap, ◌∙◌, subst}
use mathlib.Core.Bool.{true}
use mathlib.Core.List.{List, [], ◌∷◌, ◌++◌, map}
use Prim.Native.Nat.{ℕ, ◌+◌, ◌-◌, ◌≤◌}
use native.Mathlib.Omega.{arith}
use lib.ListN.{length, take, drop, replicate, length-append, length-drop, length-take, length-map, length-replicate, replicate-append-replicate}
use lib.Seq.{take_at, take-append-le}
use Rattle.promise.specs.Paper.{Paper, done, refused}
use Rattle.promise.specs.Slices.{over}
use Rattle.promise.proofs.Bools.{T_true}
use Rattle.text.specs.Text.{text_limit}
use Rattle.text.proofs.Texts.{front, text-true}
use Rattle.edit.specs.declared.View.{View}
use Rattle.edit.specs.declared.Applied.{Applied}
use Rattle.edit.specs.declared.Edit.{Edit}
use Rattle.edit.specs.Edits.{Whole, whole, Edited}
use Rattle.edit.specs.declared.Refusal.{Refusal}
use Rattle.edit.specs.Refusals.{small_ok, few_ok, payload_ok}
use Rattle.edit.specs.Call.{paper, number_of, offset_of, Lent, lent, Outcome, outcome, verdict_of, given_tests, leaves as leaves_call, applied}
use Rattle.edit.specs.Demand3.{returned}
use Rattle.edit.proofs.Calls.{lengths_kept, inverse_fits_room}
use Rattle.edit.proofs.Workers.{given_passed, applied-refused}
use Rattle.given.specs.Tests.{later_tests}
use Rattle.shift.specs.Call.{ordered_ok}
use Rattle.shift.proofs.Handed.{small-first, few-first}
use Rattle.frame.specs.Format.{Frame, edit, frame_bytes}
use Rattle.frame.specs.Inverses.{HasLine}
use Rattle.reader.proofs.EditLines.{Held}
use Rattle.printing.specs.Prints.{printed_as}
use Rattle.printing.proofs.Printed.{printed-length}
use Rattle.select.specs.declared.Sel.{Sel}
use Rattle.marking.specs.Slots.{marks_in, marks_over}
use Rattle.marking.specs.Carries.{carried_mark}
use Rattle.marking.specs.InOrder.{in_order}
use Rattle.marking.proofs.Slots.{count_marks, marks_stay, over_length}
use Rattle.marking.proofs.Orders.{in_order_lem}
use Rattle.loading.specs.declared.Script.{Script}
use Rattle.loading.specs.declared.Progress.{Progress}
use Rattle.loading.specs.States.{State, buffer_limit, state_of}
use Rattle.loading.specs.Loads.{refuses, framed_by}
use Rattle.step.specs.Steps.{lent_to, carried, answered, ran, edited, framed}
use Rattle.step.specs.Calls.{Ready, Left, left, leaves, carried_in, inverse_in}
use Rattle.step.proofs.Readies.{inverse_lines, judged-given}
use Rattle.step.proofs.Shifts.{moved_marks}
use Rattle.std.specs.Prelude.{Result, Ok, Err, Option}

-- the inverse as it is lent to be printed
module _ (a : Applied) (x f s : List ℕ) where
  abbrev fronts : Whole ℕ
  fronts = whole a.inverse (take (a.payload - 0) (drop 0 x)) (take (a.first - 0) (drop 0 f)) (take (a.second - 0) (drop 0 s))

  fronts_same : fronts ≡ inverse_in a x f s
  fronts_same = rw (front x a.payload, front f a.first, front s a.second)

  pub fronts_line : HasLine (edit (inverse_in a x f s)) → HasLine (edit fronts)
  fronts_line h = subst (λ (w : Whole ℕ). HasLine (edit w)) (sym fronts_same) h

  pub fronts_printed : (r : ℕ) (o u : List ℕ) → (u ≡ over (printed_as (0 ∷ frame_bytes (edit fronts))) o) × (r ≡ length (printed_as (0 ∷ frame_bytes (edit fronts))))
      → (u ≡ over (printed_as (0 ∷ frame_bytes (edit (inverse_in a x f s)))) o) × (r ≡ length (printed_as (0 ∷ frame_bytes (edit (inverse_in a x f s)))))
  fronts_printed r o u h =
      subst (λ (w : Whole ℕ). (u ≡ over (printed_as (0 ∷ frame_bytes (edit w))) o) × (r ≡ length (printed_as (0 ∷ frame_bytes (edit w))))) fronts_same h

-- a call that refuses leaves the text
leaves-keeps : (p : Paper Applied) (v : View) (l : Lent) (d : Edited ℕ) (n k : ℕ) → (leaves_call p v l d).answer ≡ refused n k → (leaves_call p v l d).text ≡ l.buffer
unfolding leaves_call
leaves-keeps (done a) v l d n k e = let z : ◌≡◌ {A = ℕ} 0 1 = cc in absurd (omega arith)
leaves-keeps (refused i j) v l d n k e = refl

refused_keeps : (v : View) (e : Edit) (l : Lent) (n k : ℕ) → (applied v e l).answer ≡ refused n k → (applied v e l).text ≡ l.buffer
unfolding applied
refused_keeps v e l n k h = leaves-keeps _ v l _ n k h

-- the front of a local array of zeros
zeros : (n : ℕ) → n ≤ buffer_limit → take (n - 0) (drop 0 (replicate {A = ℕ} buffer_limit 0)) ≡ replicate n 0
zeros n h =
    let k : n + (buffer_limit - n) ≡ buffer_limit = omega arith in
    let e : replicate {A = ℕ} buffer_limit 0 ≡ replicate n 0 ++ replicate (buffer_limit - n) 0 = sym (replicate-append-replicate {A = ℕ} n (buffer_limit - n) 0 ∙ ap (λ (i : ℕ). replicate i 0) k) in
    front (replicate buffer_limit 0) n ∙ ap (take n) e ∙ take_at (replicate n 0) (replicate (buffer_limit - n) 0) n (length-replicate {A = ℕ} n 0)

module _ (c : Script) (t : List ℕ) (m : List (Option Sel)) (h : Ready c t m) where
  abbrev s : State
  s = state_of c t m

  roomy : c.place.marks ≤ length m
  roomy = omega (arith, h.few, h.room)

  pub text-fits : (c.view.used ≤ length t) × (length (take (c.view.used - 0) (drop 0 t)) ≤ text_limit)
  text-fits =
      let k = text-true t c.view.used h.admitted in
      (k.0, omega (arith, ap length (front t c.view.used), length-take c.view.used t))

  -- a refusal is printed, and nothing else happens
  pub refusal_leaves : (r : Progress) (n : ℕ) (o u : List ℕ) → (r.script ≡ c) × (r.printed ≡ 3) × (u ≡ over (printed_as (n ∷ [])) o) → left r t m u ≡ leaves (refuses s n) m o
  refusal_leaves r n o u q =
      let k : length (printed_as (n ∷ [])) ≡ 3 = omega (arith, printed-length (n ∷ [])) in
      rw (q.0, q.1, q.2, marks_stay c.place.marks m roomy, k)

  module _ (w : Whole ℕ) where
    abbrev call : Outcome
    call = applied c.view w.edit (lent_to s w)

    ran-answered : (p : Paper Applied) → call.answer ≡ p → ran s w ≡ answered s w call p
    unfolding ran
    ran-answered p e = rw e

    -- what the call is lent, from local arrays
    abbrev lent_here : Lent
    lent_here = lent t w.payload w.first w.second (take (length t - 0) (drop 0 (replicate buffer_limit 0))) (replicate 256 0) (replicate 256 0)

    module _ (g : verdict_of (given_tests c.view w.edit (lent_to s w)) ≡ done tt) where
      pub carry_asked : (small_ok w.edit w.first [] ≡ true) × (few_ok (take (c.view.used - 0) (drop 0 t)) w.edit w.payload w.first [] ≡ true)
      carry_asked =
          let p = given_passed c.view w.edit (lent_to s w) (sym g) in (
            small-first w.edit w.first w.second (T_true (small_ok w.edit w.first w.second) p.smalls),
            rw (front t c.view.used) (few-first (take c.view.used t) w.edit w.payload w.first w.second (T_true (few_ok (take c.view.used t) w.edit w.payload w.first w.second) p.fews)),
          )

      pub carried-over : ordered_ok w.edit ≡ true → (n : List (Option Sel))
          → n ≡ marks_over (map (carried_mark (take (c.view.used - 0) (drop 0 t)) w.edit w.payload w.first) (marks_in c.place.marks m)) m → n ≡ carried_in s w m
      carried-over ends n e = e ∙ rw (front t c.view.used, moved_marks s w g ends (marks_in c.place.marks m))

    module _ (p : Paper Applied) (t' x f g : List ℕ) (e : outcome p t' x f g ≡ applied c.view w.edit lent_here) where
      same : outcome p t' x f g ≡ call
      same =
          e ∙ ap (λ (z : List ℕ). applied c.view w.edit (lent t w.payload w.first w.second z (replicate 256 0) (replicate 256 0))) (zeros (length t) h.small)

      answers : call.answer ≡ p
      answers = ap (λ (r : Outcome). r.answer) (sym same)

      payload_long : length x ≡ length t
      payload_long =
          ap (λ (r : Outcome). length r.payload) same ∙ (lengths_kept c.view w.edit (lent_to s w)).payload ∙ length-replicate {A = ℕ} (length t) 0

      -- the local array, once its front has come back
      abbrev back : List ℕ
      back = x ++ drop (length t - 0) (replicate buffer_limit 0)

      pub back_long : length back ≡ buffer_limit
      back_long =
          length-append x (drop (length t - 0) (replicate buffer_limit 0))
          ∙ omega (arith, payload_long, h.small, length-drop {A = ℕ} (length t - 0) (replicate buffer_limit 0), length-replicate {A = ℕ} buffer_limit 0)

      pub refused_leaves : (n k : ℕ) → p ≡ refused n k → (r : Progress) (o u : List ℕ) → (r.script ≡ c) × (r.printed ≡ 3) × (u ≡ over (printed_as (n ∷ [])) o)
          → left r t' m u ≡ leaves (ran s w) m o
      unfolding answered
      refused_leaves n k q r o u z =
          let a : call.answer ≡ refused n k = answers ∙ q in
          let b : t' ≡ t = ap (λ (i : Outcome). i.text) same ∙ refused_keeps c.view w.edit (lent_to s w) n k a in
          rw (b, ran-answered (refused n k) a) (refusal_leaves r n o u z)

      module _ (a : Applied) (q : p ≡ done a) where
        fits : (a.payload ≤ length t) × (a.first ≤ 256) × (a.second ≤ 256)
        fits =
            let k = inverse_fits_room c.view w.edit (lent_to s w) a (answers ∙ q) in
            (omega (arith, k.payload, k.used), k.first, k.second)

        inverse_same : inverse_in a back f g ≡ returned a call
        inverse_same =
            let i : take a.payload back ≡ take a.payload call.payload =
            take-append-le a.payload x (drop (length t - 0) (replicate buffer_limit 0)) (omega (arith, fits.0, payload_long)) ∙ ap (λ (r : Outcome). take a.payload r.payload) same in
            let j : f ≡ call.first = ap (λ (r : Outcome). r.first) same in
            let k : g ≡ call.second = ap (λ (r : Outcome). r.second) same in
            rw (i, j, k)

        pub accept_asked : (a.payload ≤ length back) × (a.first ≤ length f) × (a.second ≤ length g) × HasLine (edit (inverse_in a back f g))
        accept_asked =
            let n = lengths_kept c.view w.edit (lent_to s w) in
            let l = length-replicate {A = ℕ} 256 0 in (
              omega (arith, fits.0, back_long, h.small),
              omega (arith, fits.1, ap (λ (r : Outcome). length r.first) same, n.first, l),
              omega (arith, fits.2, ap (λ (r : Outcome). length r.second) same, n.second, l),
              rw inverse_same (inverse_lines c t m h w a (answers ∙ q)),
            )

        module _ (n : List (Option Sel)) (moved : n ≡ carried_in s w m) where
          pub moved_long : length n ≡ length m
          moved_long =
              let l : length (map (carried s w) s.marks) ≡ c.place.marks = length-map s.marks (carried s w) ∙ count_marks c.place.marks m roomy in
              ap length moved ∙ over_length (map (carried s w) s.marks) m (omega (arith, roomy))

          pub accept_leaves : (r : Progress) (o u : List ℕ) (m' : List (Option Sel))
              → (r.script ≡ record { view = a.view; place = c.place }) × (m' ≡ n) × (u ≡ over (printed_as (0 ∷ frame_bytes (edit (inverse_in a back f g)))) o) × (r.printed ≡ length (printed_as (0 ∷ frame_bytes (edit (inverse_in a back f g)))))
              → left r t' m' u ≡ leaves (ran s w) m o
          unfolding answered
          accept_leaves r o u m' z =
              let b : t' ≡ call.text = ap (λ (i : Outcome). i.text) same in
              rw (ran-answered (done a) (answers ∙ q), b, z.0, z.1, z.2, z.3, moved, inverse_same)

-- an edit e with its ends in order is d, which was judged
module _ (c : Script) (t : List ℕ) (m : List (Option Sel)) (h : Ready c t m) (e d : Edit) (x f g : List ℕ) (q : d ≡ in_order e) (v : Result (Unit {0}) Refusal)
    (j : paper v ≡ verdict_of (later_tests (small_ok d f g) (few_ok (take (c.view.used - 0) (drop 0 t)) d x f g) (payload_ok d x f))) where
  abbrev given : Paper (Unit {0})
  given = verdict_of (given_tests c.view d (lent_to (state_of c t m) (whole d x f g)))

  judged : paper v ≡ given
  judged =
      rw (front t c.view.used) at j
      ∙ judged-given c.view d t x f g (replicate (length t) 0) (replicate 256 0) (replicate 256 0) c.view.used refl h.admitted

  pub apply_asked : v ≡ Ok tt → (ordered_ok d ≡ true) × (given ≡ done tt)
  apply_asked z = (rw q (in_order_lem e), sym judged ∙ ap paper z)

  pub fine_leaves : (y : Left) (o : List ℕ) → y ≡ leaves (ran (state_of c t m) (whole d x f g)) m o → y ≡ leaves (edited (state_of c t m) (whole e x f g)) m o
  fine_leaves y o z = rw q at z

  pub bad_leaves : (why : Refusal) → v ≡ Err why → (r : Progress) (o u : List ℕ) → (r.script ≡ c) × (r.printed ≡ 3) × (u ≡ over (printed_as (number_of why ∷ [])) o)
      → left r t m u ≡ leaves (edited (state_of c t m) (whole e x f g)) m o
  unfolding answered
  bad_leaves why z r o u k =
      let w : Whole ℕ = whole d x f g in
      let a = applied-refused c.view d (lent_to (state_of c t m) w) (number_of why) (offset_of why) (sym (ap paper z) ∙ judged) in
      let b = ran-answered c t m h w (refused (number_of why) (offset_of why)) (ap (λ (i : Outcome). i.answer) (sym a)) in
      fine_leaves (left r t m u) o (rw b (refusal_leaves c t m h r (number_of why) o u k))

-- what the reader held out of a line
module _ (c : Script) (t : List ℕ) (m : List (Option Sel)) (h : Ready c t m) (p : Paper Frame) where
  pub edit_leaves : (e : Edit) (x : List ℕ) (n : ℕ) (f : List ℕ) (i : ℕ) (g : List ℕ) (j : ℕ) → Held p e x n f i g j → (y : Left) (o : List ℕ)
      → y ≡ leaves (edited (state_of c t m) (whole e (take (n - 0) (drop 0 x)) (take (i - 0) (drop 0 f)) (take (j - 0) (drop 0 g)))) m o
      → y ≡ leaves (framed (state_of c t m) p) m o
  unfolding framed_by
  edit_leaves e x n f i g j q y o z = rw q.3 (rw (front x n, front f i, front g j) at z)

  pub line-leaves : (n k : ℕ) → p ≡ refused n k → (r : Progress) (o u : List ℕ) → (r.script ≡ c) × (r.printed ≡ 3) × (u ≡ over (printed_as (n ∷ [])) o)
      → left r t m u ≡ leaves (framed (state_of c t m) p) m o
  unfolding framed_by
  line-leaves n k q r o u z = rw q (refusal_leaves c t m h r n o u z)
