-- Marks in a slice, read and kept.
use mathlib.Core.Path.{◌≡◌, refl, ◌∙◌}
use mathlib.Core.List.{List, [], ◌∷◌, map}
use Prim.Native.Nat.{ℕ, ◌≤◌}
use native.Mathlib.Omega.{arith}
use lib.ListN.{length, take, drop, length-append, length-drop, length-map}
use lib.Seq.{take_at, length-take-le}
use Rattle.std.specs.Prelude.{Option, Some, None}
use Rattle.std.proofs.lemmas.List.{take-append-drop}
use Rattle.select.specs.declared.Sel.{Sel}
use Rattle.shift.specs.Answers.{Followed, to, dropped, followed}
use Rattle.marking.specs.Slots.{slot_of, marks_in, marks_over}

pub slot_followed : (o : Option Sel) → slot_of (followed o) ≡ o
unfolding slot_of
slot_followed (Some m) = refl
slot_followed None = refl

followed_slot : (m : Followed Sel) → followed (slot_of m) ≡ m
unfolding slot_of
followed_slot (to m) = refl
followed_slot dropped = refl

pub slots-followed : (l : List (Option Sel)) → map slot_of (map followed l) ≡ l
slots-followed [] = refl
slots-followed (o ∷ l) = rw (slot_followed o, slots-followed l)

followed-slots : (ms : List (Followed Sel)) → map followed (map slot_of ms) ≡ ms
followed-slots [] = refl
followed-slots (m ∷ ms) = rw (followed_slot m, followed-slots ms)

module _ (n : ℕ) (l : List (Option Sel)) (h : n ≤ length l) where
  pub count_marks : length (marks_in n l) ≡ n
  count_marks = length-map (take n l) followed ∙ length-take-le n l h

  -- the marks of a slice, kept there
  pub marks_stay : marks_over (marks_in n l) l ≡ l
  marks_stay = rw (count_marks, slots-followed (take n l)) (take-append-drop n l)

module _ (ms : List (Followed Sel)) (l : List (Option Sel)) where
  pub marks_in-over : (n : ℕ) → length ms ≡ n → marks_in n (marks_over ms l) ≡ ms
  marks_in-over n e = rw (take_at (map slot_of ms) (drop (length ms) l) n (length-map ms slot_of ∙ e), followed-slots ms)

  pub over_length : length ms ≤ length l → length (marks_over ms l) ≡ length l
  over_length h = simp (length-append, length-drop, length-map) (omega arith)
