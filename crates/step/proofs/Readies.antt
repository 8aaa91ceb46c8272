-- What holds between two lines holds after each, and no line prints more than a line.
use mathlib.Core.Path.{◌≡◌, refl, ap, ◌∙◌}
use mathlib.Core.Bool.{Bool, true, false, cond, not, ◌&&◌}
use mathlib.Core.List.{List, [], ◌∷◌, ◌++◌, map, map-append, flatten}
use Prim.Native.Nat.{ℕ, suc, ◌+◌, ◌-◌, ◌≤◌, ◌<◌}
use native.Mathlib.Omega.{arith}
use borrow.Author.Tests.{le-leb, ltb-false}
use lib.Dec.{ltb, leb}
use lib.ListN.{length, take, drop, set, replicate, length-append, length-drop, length-map, length-replicate}
use lib.Seq.{take-append_seam, length-take-le}
use Rattle.promise.specs.Paper.{Paper, done, refused}
use Rattle.promise.specs.Slices.{over}
use Rattle.promise.proofs.Bools.{both, T_true, T-right}
use Rattle.text.specs.Rows.{at}
use Rattle.text.specs.Text.{all_admissible, all, text_ok, renewed}
use Rattle.text.proofs.Texts.{text-true}
use Rattle.text.proofs.Renewed.{renewed-text, renewed-length}
use Rattle.edit.specs.declared.View.{View}
use Rattle.edit.specs.declared.Edit.{Edit}
use Rattle.edit.specs.declared.Applied.{Applied}
use Rattle.edit.specs.Edits.{Whole, whole, Edited}
use Rattle.edit.specs.Refusals.{small_ok, few_ok, payload_ok}
use Rattle.edit.specs.Call.{first_of, verdict_of, lent, Outcome, result_of, given_tests, applied}
use Rattle.edit.specs.Demand3.{State as Core, after, returned}
use Rattle.edit.proofs.Accepted.{doing}
use Rattle.edit.proofs.Calls.{Called, lengths_kept, once_called}
use Rattle.edit.proofs.Workers.{accepted}
use Rattle.given.specs.Tests.{later_tests}
use Rattle.select.specs.declared.Sel.{Sel}
use Rattle.shift.specs.Answers.{to}
use Rattle.hexline.specs.Digits.{hexed}
use Rattle.hexline.proofs.Theorems.{two_digits}
use Rattle.frame.specs.Format as format
use Rattle.frame.specs.Format.{Frame, frame_bytes}
use Rattle.frame.specs.Forms.{Form, malformed, text, mark, edit, line_form}
use Rattle.frame.specs.Reads.{Contents, chars, bad_from, contents, first_list, text_of, edit_of, read_form}
use Rattle.frame.specs.Inverses.{HasLine}
use Rattle.frame.proofs.Theorems.{line-done}
use Rattle.frame.proofs.Inverses.{inverses-have_lines, texts-have_lines}
use Rattle.place.specs.declared.Place.{Place}
use Rattle.place.specs.Places.{mark_limit, judged, seen}
use Rattle.place.proofs.InPlace.{mark_few}
use Rattle.printing.specs.Prints.{printed_as}
use Rattle.printing.proofs.Printed.{printed-length}
use Rattle.marking.specs.Slots.{slot_of, marks_over}
use Rattle.marking.proofs.Slots.{slots-followed, count_marks, over_length}
use Rattle.std.specs.Prelude.{Option, Some, None}
use Rattle.std.proofs.lemmas.List.{take-append-drop, take_more_set, drop-set-lt}
use Rattle.loading.specs.declared.Script.{Script}
use Rattle.loading.specs.States.{State, state, text_in, buffer_limit, opening, state_of, script_of}
use Rattle.loading.specs.Loads.{Stepped, stepped, refuses, loaded, framed_by}
use Rattle.step.specs.Steps.{lent_to, carried, answered, ran, ordered, framed, sees, step}
use Rattle.step.specs.Calls.{Ready}
use Rattle.step.proofs.Framing.{core}
use Rattle.step.proofs.Callings.{beside}
use Rattle.step.proofs.Admitted.{edited-admitted}

-- ---- lines printed

line-short : (f : Frame) → HasLine f → length (frame_bytes f) ≤ 18_432
line-short f h = omega (arith, (line-done f (hexed (frame_bytes f)) h).2, two_digits (frame_bytes f))

-- ---- an accepted edit

module _ (s : State) (w : Whole ℕ) (a : Applied) where
  abbrev o : Outcome
  o = applied s.view w.edit (lent_to s w)

  abbrev d : Edited ℕ
  d = doing w (text_in s)

  module _ (e : o.answer ≡ done a) where
    called : Called (core s) w (after a o) (returned a o)
    called = once_called (core s) w (beside s) a e

    -- what it leaves is admitted
    accepted-text : text_ok o.text a.view.used ≡ true
    unfolding text_ok result_of
    accepted-text =
        let p = accepted s.view w.edit (lent_to s w) a e in
        let b : o.text ≡ renewed s.buffer s.view.used d.text = ap (λ (c : Core). c.buffer) called.state in
        let u : a.view.used ≡ length d.text = ap (λ (c : Core). c.used) called.state in
        let t = text-true s.buffer s.view.used (T_true (text_ok s.buffer s.view.used) p.0.textual) in
        let n : length (renewed s.buffer s.view.used d.text) ≡ length s.buffer = renewed-length s.buffer s.view.used d.text t.0 p.1.buffer in
        let g = edited-admitted w.edit w.payload w.first w.second (text_in s) p.0.payloads (T-right (leb s.view.used (length s.buffer) && leb s.view.used 16_384) (all_admissible (text_in s)) p.0.textual) in
        rw (b, u, n, le-leb (length d.text) (length s.buffer) p.1.buffer, le-leb (length d.text) 16_384 p.1.limit, renewed-text s.buffer s.view.used d.text) (T_true (all_admissible d.text) g)

    inverse_line : length s.buffer ≤ buffer_limit → HasLine (format.edit (returned a o))
    unfolding result_of
    inverse_line h =
        rw called.inverse (inverses-have_lines s.view w.edit (lent_to s w) a e h).0

-- ---- after a line

-- ready for the next line, with as many marks as are counted, and no more printed than a line of 36,864 digits, the two of 00, and LF
pub record Onward (x : Stepped) (m : List (Option Sel)) : Type 0 where
  pub ready : Ready (script_of x.state) x.state.buffer (marks_over x.state.marks m)
  pub short : length x.printed ≤ 36_867
  pub count : length x.state.marks ≡ x.state.place.marks

stands : (s : State) (m : List (Option Sel)) → text_ok s.buffer s.view.used ≡ true → length s.buffer ≤ buffer_limit → length m ≡ mark_limit → s.place.marks ≤ mark_limit → length s.marks ≡ s.place.marks
    → Ready (script_of s) s.buffer (marks_over s.marks m)
stands s m t b r f n = record { admitted = t; small = b; room = over_length s.marks m (omega arith) ∙ r; few = f }

text-loaded : (cs b : List ℕ) → all_admissible cs ≡ true → length cs ≤ length b → length b ≤ buffer_limit → (text_ok (over cs b) (length cs) ≡ true) × (length (over cs b) ≡ length b)
unfolding text_ok
text-loaded cs b e h k =
    let n : length (over cs b) ≡ length b = simp (length-append, length-drop) (omega arith) in
    (rw (n, le-leb (length cs) (length b) h, le-leb (length cs) 16_384 (omega arith), take-append_seam) e, n)

module _ (c : Script) (t : List ℕ) (m : List (Option Sel)) (h : Ready c t m) where
  abbrev s : State
  s = state_of c t m

  counted : length s.marks ≡ c.place.marks
  counted = count_marks c.place.marks m (omega (arith, h.few, h.room))

  abbrev holding : List ℕ → State
  holding cs = state (record { used = length cs; cursor = at 0 0; changes = c.view.changes }) (over cs t) c.place s.marks

  pub ready_refused : (n : ℕ) → Onward (refuses s n) m
  ready_refused n =
      record { ready = stands s m h.admitted h.small h.room h.few counted; short = omega (arith, printed-length (n ∷ [])); count = counted }

  pub ready_loaded : (cs : List ℕ) → Onward (loaded s cs) m
  unfolding loaded
  ready_loaded cs = go (all_admissible cs) (ltb (length t) (length cs)) refl refl
    where
      go : (p q : Bool) → all_admissible cs ≡ p → ltb (length t) (length cs) ≡ q
          → Onward (cond (not p) (refuses s 1) (cond q (refuses s 8) (stepped (holding cs) []))) m
      go true true e f = ready_refused 8
      go true false e f =
          let k = text-loaded cs t e (ltb-false (length t) (length cs) f) h.small in
          record {
            ready = stands (holding cs) m k.0 (omega (arith, k.1, h.small)) h.room h.few counted;
            short = omega arith;
            count = counted;
          }
      go false q e f = ready_refused 1

  pub ready_mark : (k : Sel) (p : Place) → p.marks ≡ suc c.place.marks → c.place.marks < mark_limit
      → Onward (stepped (state c.view t p (s.marks ++ (to k ∷ []))) []) m
  ready_mark k p e f =
      let n : length (s.marks ++ (to k ∷ [])) ≡ p.marks = rw length-append (omega (arith, counted)) in
      record { ready = stands (state c.view t p (s.marks ++ (to k ∷ []))) m h.admitted h.small h.room (omega arith) n; short = omega arith; count = n }

  -- it stands behind the marks before it
  pub mark_kept : (k : Sel) → c.place.marks < mark_limit → set m (suc c.place.marks - 1) (Some k) ≡ marks_over (s.marks ++ (to k ∷ [])) m
  unfolding slot_of
  mark_kept k f =
      let n = c.place.marks in
      let i : suc n - 1 ≡ n = omega arith in
      let j : n < length m = omega (arith, h.room) in
      let l : length (s.marks ++ (to k ∷ [])) ≡ n + 1 = rw length-append (omega (arith, counted)) in
      let r = set m n (Some k) in
      let a : take (n + 1) r ++ drop (n + 1) r ≡ r = take-append-drop (n + 1) r in
      rw (i, ← a, take_more_set m n (Some k) j, drop-set-lt (n + 1) m n (Some k) (omega arith), l, map-append, slots-followed (take n m))

  pub ready_ran : (w : Whole ℕ) → Onward (ran s w) m
  unfolding ran answered
  ready_ran w = go (applied c.view w.edit (lent_to s w)).answer refl
    where
      go : (p : Paper Applied) → (applied c.view w.edit (lent_to s w)).answer ≡ p → Onward (answered s w (applied c.view w.edit (lent_to s w)) p) m
      go (done a) e =
          let r : Outcome = applied c.view w.edit (lent_to s w) in
          let n = (lengths_kept c.view w.edit (lent_to s w)).text in
          let k : length (map (carried s w) s.marks) ≡ c.place.marks = length-map s.marks (carried s w) ∙ counted in
          let i = line-short (format.edit (returned a r)) (inverse_line s w a e h.small) in
          record {
            ready = stands (state a.view r.text c.place (map (carried s w) s.marks)) m (accepted-text s w a e) (omega (arith, h.small)) h.room h.few k;
            short = omega (arith, printed-length (0 ∷ frame_bytes (format.edit (returned a r))));
            count = k;
          }
      go (refused n k) e = ready_refused n

  -- the text's line at the end
  pub ready_lines : HasLine (format.text (text_in s)) × (length (printed_as (frame_bytes (format.text (text_in s)))) ≤ 36_867)
  unfolding text_ok
  ready_lines =
      let k = text-true t c.view.used h.admitted in
      let g = (both (leb c.view.used (length t) && leb c.view.used 16_384) (all_admissible (text_in s)) h.admitted).1 in
      let l : HasLine (format.text (text_in s)) = (texts-have_lines (text_in s) g (omega (arith, length-take-le c.view.used t k.0, h.small))).0 in
      (l, omega (arith, printed-length (frame_bytes (format.text (text_in s))), line-short (format.text (text_in s)) l))

  pub inverse_lines : (w : Whole ℕ) (a : Applied) → (applied c.view w.edit (lent_to s w)).answer ≡ done a
      → HasLine (format.edit (returned a (applied c.view w.edit (lent_to s w))))
  inverse_lines w a e = inverse_line s w a e h.small

-- ---- any line

-- what has been seen besides the marks does not matter
pub ready_seen : (c : Script) (p : Place) (t : List ℕ) (m : List (Option Sel)) → p.marks ≡ c.place.marks → Ready c t m → Ready (record { view = c.view; place = p }) t m
ready_seen c p t m e h = record { admitted = h.admitted; small = h.small; room = h.room; few = omega (arith, h.few) }

module _ (c : Script) (t : List ℕ) (m : List (Option Sel)) (h : Ready c t m) where
  read_text : (r : Contents) → Onward (framed (state_of c t m) (text_of r)) m
  unfolding framed_by text_of
  read_text (chars xs) = ready_loaded c t m h (flatten xs)
  read_text (bad_from k) = ready_refused c t m h 5

  read_edit : (e : Edit) (f g : List ℕ) (r : Contents) → Onward (framed (state_of c t m) (edit_of e f g r)) m
  unfolding framed_by edit_of
  read_edit e f g (chars xs) = ready_ran c t m h (ordered (whole e (flatten xs) (first_list e xs f) g))
  read_edit e f g (bad_from k) = ready_refused c t m h 5

module _ (c : Script) (t : List ℕ) (m : List (Option Sel)) (l : List ℕ) (h : Ready c t m) where
  onward : (g : Form) → judged c.place (text_in (state_of c t m)) l ≡ g → Onward (framed (sees (state_of c t m) (seen c.place g)) (read_form g)) m
  unfolding framed_by read_form seen
  onward malformed e = ready_refused c t m h 10
  onward (text u) e = let p = seen c.place (text u) in read_text (record { view = c.view; place = p }) t m (ready_seen c p t m refl h) (contents 1 (u ∷ []))
  onward (mark k) e = ready_mark c t m h k (seen c.place (mark k)) refl (mark_few c.place (text_in (state_of c t m)) (line_form l) k e)
  onward (edit d at ks f g) e = let p = seen c.place (edit d at ks f g) in read_edit (record { view = c.view; place = p }) t m (ready_seen c p t m refl h) d f g (contents at ks)

  after-step : Onward (step (state_of c t m) l) m
  unfolding step
  after-step = onward (judged c.place (text_in (state_of c t m)) l) refl

  pub ready_step : let x = step (state_of c t m) l in Ready (script_of x.state) x.state.buffer (marks_over x.state.marks m)
  ready_step = after-step.ready

  pub printed-short : length (step (state_of c t m) l).printed ≤ 36_867
  printed-short = after-step.short

  pub marks_counted : let x = step (state_of c t m) l in length x.state.marks ≡ x.state.place.marks
  marks_counted = after-step.count

-- ---- at the start

pub opening-state : state_of (script_of opening) (replicate 4_096 0) (replicate 64 None) ≡ opening
opening-state = refl

pub ready_opening : Ready (script_of opening) (replicate 4_096 0) (replicate 64 None)
unfolding text_ok all
ready_opening = record {
  admitted = rw (le-leb 0 (length {A = ℕ} (replicate 4_096 0)) (omega arith));
  small = omega (arith, length-replicate {A = ℕ} 4_096 0);
  room = length-replicate {A = Option Sel} 64 None;
  few = omega arith;
}

-- ---- rows 1 to 4, of a text that is admitted

pub judged-given : (v : View) (e : Edit) (t x f s op of os : List ℕ) (used : ℕ) → v.used ≡ used → text_ok t used ≡ true
    → verdict_of (later_tests (small_ok e f s) (few_ok (take used t) e x f s) (payload_ok e x f)) ≡ verdict_of (given_tests v e (lent t x f s op of os))
unfolding first_of
judged-given v e t x f s op of os used q h = rw (q, h)
