-- One line, by the head that it was judged to have.
use mathlib.Core.Path.{◌≡◌, refl, sym, ap, ◌∙◌}
use mathlib.Core.Bool.{Bool, true, false, cond, not}
use mathlib.Core.List.{List, [], ◌∷◌, flatten}
use Prim.Native.Nat.{ℕ, suc, ◌-◌, ◌≤◌, ◌<◌}
use native.Mathlib.Nat.{sub-zero}
use native.Mathlib.Omega.{arith}
use lib.Dec.{ltb}
use lib.ListN.{length, take, drop, set}
use Rattle.promise.specs.Slices.{over}
use Rattle.text.specs.Rows.{at}
use Rattle.text.specs.Text.{all_admissible}
use Rattle.hexline.specs.Digits.{hexed}
use Rattle.edit.specs.declared.Edit.{Edit}
use Rattle.edit.specs.Edits.{Whole}
use Rattle.select.specs.declared.Sel.{Sel}
use Rattle.shift.specs.Answers.{Followed}
use Rattle.frame.specs.declared.Head.{Head}
use Rattle.frame.specs.declared.Head.TheVariants as as_head
use Rattle.frame.specs.Forms.{Form, malformed, text, mark, edit, line_form, head_of}
use Rattle.frame.specs.Reads.{Contents, chars, bad_from, contents, text_of, read_form, frame_read}
use Rattle.frame.proofs.Heads.{malformed_by_head, mark_by_head}
use Rattle.place.specs.declared.Place.{Place}
use Rattle.place.specs.Places.{judged, seen}
use Rattle.place.proofs.InPlace.{in_place, mark_few, edit_seen}
use Rattle.printing.specs.Prints.{printed_as}
use Rattle.marking.specs.Slots.{marks_over}
use Rattle.marking.proofs.Slots.{marks_stay}
use Rattle.std.specs.Prelude.{Option, Some}
use Rattle.loading.specs.declared.Script.{Script}
use Rattle.loading.specs.declared.Progress.{Progress}
use Rattle.loading.specs.States.{State, state, state_of, text_in, script_of}
use Rattle.loading.specs.Loads.{Stepped, stepped, refuses, loaded, framed_by}
use Rattle.step.specs.Steps.{edited, framed, sees, step}
use Rattle.loading.specs.Calls.{Part, part, part_of}
use Rattle.step.specs.Calls.{Ready, Left, left, leaves, step_leaves}
use Rattle.step.proofs.Readies.{ready_step, printed-short, ready_seen, mark_kept}

never : {A : Type 0} → ◌≡◌ {A = ℕ} 0 1 → A
never e = absurd (omega arith)

-- ---- a text frame leaves the marks

loaded-marks : (s : State) (cs : List ℕ) → (loaded s cs).state.marks ≡ s.marks
unfolding loaded
loaded-marks s cs = go (not (all_admissible cs)) (ltb (length s.buffer) (length cs))
  where
    go : (b d : Bool)
        → (cond b (refuses s 1) (cond d (refuses s 8) (stepped (state (record { used = length cs; cursor = at 0 0; changes = s.view.changes }) (over cs s.buffer) s.place s.marks) []))).state.marks ≡ s.marks
    go true d = refl
    go false true = refl
    go false false = refl

read_marks : (s : State) (x : Contents) → (framed s (text_of x)).state.marks ≡ s.marks
unfolding framed_by text_of
read_marks s (chars xs) = loaded-marks s (flatten xs)
read_marks s (bad_from k) = refl

text-marks : (s : State) (f : Form) → head_of f ≡ as_head.Text → (framed s (read_form f)).state.marks ≡ s.marks
unfolding head_of read_form
text-marks s malformed e = never cc
text-marks s (text u) e = read_marks s (contents 1 (u ∷ []))
text-marks s (mark m) e = never cc
text-marks s (edit d at ks f k) e = never cc

-- ---- the step

-- h was judged, and q is what has been seen with it
module _ (c : Script) (t : List ℕ) (m : List (Option Sel)) (l : List ℕ) (ready : Ready c t m) (h : Head) (e : h ≡ head_of (judged c.place (take (c.view.used - 0) (drop 0 t)) l)) (q : Place)
    (saw : (g : Form) → head_of g ≡ h → q ≡ seen c.place g) where
  abbrev s : State
  s = state_of c t m

  kept : marks_over s.marks m ≡ m
  kept = marks_stay c.place.marks m (omega (arith, ready.few, ready.room))

  abbrev g : Form
  g = judged c.place (text_in s) l

  abbrev next : Script
  next = record { view = c.view; place = q }

  told : head_of g ≡ h
  told = sym (rw sub-zero at e)

  stepped-as : step s l ≡ framed (sees s q) (read_form g)
  unfolding step
  stepped-as = rw (saw g told)

  -- where the line is what it is judged to be
  stepped-read : (h ≡ as_head.Malformed → ⊥) → step s l ≡ framed (sees s q) (frame_read l)
  stepped-read n = stepped-as ∙ ap (λ (f : Form). framed (sees s q) (read_form f)) (in_place c.place (text_in s) (line_form l) h told n)

  pub line-head : (h ≡ as_head.Malformed → ⊥) → head_of (line_form l) ≡ h
  line-head n = ap head_of (sym (in_place c.place (text_in s) (line_form l) h told n)) ∙ told

  -- what the functions of each kind may rely on
  pub text_head : h ≡ as_head.Text → head_of (line_form l) ≡ as_head.Text
  text_head k = line-head (λ w. never cc) ∙ k

  mark_seen : (k : Sel) → h ≡ as_head.Mark k → (g ≡ mark k) × (q ≡ seen c.place (mark k))
  mark_seen k i = let f = mark_by_head g k (told ∙ i) in (f, saw (mark k) (ap head_of (sym f) ∙ told))

  pub mark_room : (k : Sel) → h ≡ as_head.Mark k → (0 < q.marks) × (q.marks ≤ 64) × (length m ≡ 64)
  unfolding seen
  mark_room k i =
      let f = mark_seen k i in
      let w = mark_few c.place (text_in s) (line_form l) k f.0 in
      let n : q.marks ≡ suc c.place.marks = ap (λ (p : Place). p.marks) f.1 in
      (omega arith, omega arith, ready.room)

  marks_kept : (d : Edit) → h ≡ as_head.Edit d → q.marks ≡ c.place.marks
  marks_kept d k = ap (λ (p : Place). p.marks) (saw g told) ∙ edit_seen c.place g d (told ∙ k)

  pub edit_ready : (d : Edit) → h ≡ as_head.Edit d → Ready next t m
  edit_ready d k = ready_seen c q t m (marks_kept d k) ready

  pub edit_head : (d : Edit) → h ≡ as_head.Edit d → (b : Edit) × (head_of (line_form l) ≡ as_head.Edit b)
  edit_head d k = (d, line-head (λ w. never cc) ∙ k)

  module _ (r : Progress) (o : List ℕ) where
    pub malformed_left : (z : List ℕ) → h ≡ as_head.Malformed → r.script ≡ next → r.printed ≡ 3 → z ≡ over (printed_as (10 ∷ [])) o
        → left r t m z ≡ step_leaves c l t m o
    unfolding framed_by read_form hexed
    malformed_left z k a b d =
        let f = malformed_by_head g (told ∙ k) in
        rw (stepped-as, f, a, b, d, kept)

    pub text-left : (u z : List ℕ) → h ≡ as_head.Text
        → ((ms : List (Followed Sel)) (f : Whole ℕ → Stepped) → part r u z ≡ part_of (framed_by f (state c.view t q ms) (frame_read l)) o)
        → left r u m z ≡ step_leaves c l t m o
    text-left u z k a =
        let n : h ≡ as_head.Malformed → ⊥ = λ w. never cc in
        let x = stepped-read n in
        let d = a s.marks (edited (sees s q)) in
        let w : (step s l).state.marks ≡ s.marks = rw x (text-marks (sees s q) (line_form l) (line-head n ∙ k)) in
        let i : r.script ≡ script_of (step s l).state = rw x (ap (λ (y : Part). y.script) d) in
        let j : r.printed ≡ length (step s l).printed = rw x (ap (λ (y : Part). y.printed) d) in
        let v : u ≡ (step s l).state.buffer = rw x (ap (λ (y : Part). y.text) d) in
        let b : z ≡ over (step s l).printed o = rw x (ap (λ (y : Part). y.out) d) in
        rw (i, j, v, b, w, kept)

    pub mark_left : (k : Sel) → h ≡ as_head.Mark k → (y : List (Option Sel)) → r.script ≡ next → r.printed ≡ 0 → y ≡ set m (q.marks - 1) (Some k)
        → left r t y o ≡ step_leaves c l t m o
    unfolding framed_by read_form seen
    mark_left k i y a b d =
        let f = mark_seen k i in
        let w = mark_few c.place (text_in s) (line_form l) k f.0 in
        rw (stepped-as, f.0, a, b, d, f.1, mark_kept c t m ready k w)

    pub edit_left : (d : Edit) → h ≡ as_head.Edit d → (u : List ℕ) (y : List (Option Sel)) (z : List ℕ) → left r u y z ≡ leaves (framed (state_of next t m) (frame_read l)) m o
        → left r u y z ≡ step_leaves c l t m o
    edit_left d k u y z a =
        let x : state_of next t m ≡ sees s q = rw (marks_kept d k) in
        a ∙ ap (λ (w : State). leaves (framed w (frame_read l)) m o) x ∙ ap (λ (w : Stepped). leaves w m o) (sym (stepped-read (λ w. never cc)))

  -- ready for the next line
  pub still_ready : (r : Progress) (u : List ℕ) (y : List (Option Sel)) (z o : List ℕ) → left r u y z ≡ step_leaves c l t m o → Ready r.script u y × (r.printed ≤ 36_867)
  still_ready r u y z o d =
      let a : r.script ≡ script_of (step s l).state = ap (λ (x : Left). x.script) d in
      let b : r.printed ≡ length (step s l).printed = ap (λ (x : Left). x.printed) d in
      let v : u ≡ (step s l).state.buffer = ap (λ (x : Left). x.text) d in
      let w : y ≡ marks_over (step s l).state.marks m = ap (λ (x : Left). x.marks) d in
      (rw (a, v, w) (ready_step c t m l ready), omega (arith, printed-short c t m l ready))
