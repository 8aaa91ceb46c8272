-- A text line at the start.
use mathlib.Core.Path.{◌≡◌, refl}
use mathlib.Core.Bool.{Bool, true, false, cond, not}
use mathlib.Core.List.{List, []}
use Prim.Native.Nat.{ℕ, ◌≤◌}
use native.Mathlib.Omega.{arith}
use borrow.Author.Tests.{le-ltb}
use lib.Dec.{ltb}
use lib.ListN.{length, drop, length-append, length-drop, length-replicate}
use lib.Seq.{take-append_seam}
use Rattle.promise.specs.Paper.{done, refused}
use Rattle.promise.specs.Slices.{over}
use Rattle.text.specs.Rows.{at}
use Rattle.text.specs.Text.{all_admissible}
use Rattle.edit.proofs.Calls.{Held}
use Rattle.select.specs.declared.Sel.{Sel}
use Rattle.shift.specs.Answers.{Followed}
use Rattle.frame.specs.Format.{Frame, text}
use Rattle.frame.specs.Forms as forms
use Rattle.frame.specs.Forms.{Form, malformed, line_form}
use Rattle.frame.specs.Reads.{read_form, frame_read}
use Rattle.place.specs.declared.Place.{Place}
use Rattle.place.specs.Places.{seen}
use Rattle.loading.specs.States.{State, state, text_in, buffer_limit, opening}
use Rattle.loading.specs.Loads.{Stepped, stepped, refuses, loaded}
use Rattle.step.specs.Steps.{step}
use Rattle.step.proofs.Framing.{core, saw, text-step}

-- the text stands in the buffer, of n places, and nothing else has changed
pub record Loaded (n : ℕ) (cs : List ℕ) (ms : List (Followed Sel)) (r : Stepped) : Type 0 where
  pub prints : r.printed ≡ []
  pub held : Held n (core r.state)
  pub text : text_in r.state ≡ cs
  pub marks : r.state.marks ≡ ms

pub load : (n : ℕ) (s : State) (cs : List ℕ) → length s.buffer ≡ n → all_admissible cs ≡ true → length cs ≤ n → Loaded n cs s.marks (loaded s cs)
unfolding loaded
load n s cs l e h =
    rw (e, le-ltb (length s.buffer) (length cs) (omega arith)) (record {
      prints = refl;
      held = record { long = simp (length-append, length-drop) (omega arith); within = h };
      text = take-append_seam cs (drop (length cs) s.buffer);
      marks = refl;
    })

pub opens : (l cs : List ℕ) → frame_read l ≡ done (text cs) → all_admissible cs ≡ true → length cs ≤ buffer_limit → Loaded buffer_limit cs [] (step opening l)
opens l cs r e h = rw (text-step opening l cs refl r) (load buffer_limit (saw opening l) cs (length-replicate {A = ℕ} buffer_limit 0) e h)

-- and a sound line has been seen
seen-sound : (p : Place) (g : Form) (f : Frame) → read_form g ≡ done f → (seen p g).sound ≡ true
unfolding read_form seen
seen-sound p malformed f e = let q : refused 10 0 ≡ done f = e in let z : ◌≡◌ {A = ℕ} 0 1 = cc in absurd (omega arith)
seen-sound p (forms.text s) f e = refl
seen-sound p (forms.mark m) f e = refl
seen-sound p (forms.edit d at ks x y) f e = refl

loaded-place : (s : State) (cs : List ℕ) → (loaded s cs).state.place ≡ s.place
unfolding loaded
loaded-place s cs = go (all_admissible cs) (ltb (length s.buffer) (length cs))
  where
    go : (a b : Bool) → (cond (not a) (refuses s 1) (cond b (refuses s 8) (stepped (state (record { used = length cs; cursor = at 0 0; changes = s.view.changes }) (over cs s.buffer) s.place s.marks) []))).state.place ≡ s.place
    go true true = refl
    go true false = refl
    go false b = refl

pub opens-sound : (l cs : List ℕ) → frame_read l ≡ done (text cs) → (step opening l).state.place.sound ≡ true
opens-sound l cs r =
    rw (text-step opening l cs refl r, loaded-place (saw opening l) cs) (seen-sound opening.place (line_form l) (text cs) r)
